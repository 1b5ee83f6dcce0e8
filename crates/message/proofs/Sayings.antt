-- M4: which messages say what.
use Prim.Native.Nat.{ℕ}
use mathlib.Core.Path.{◌≡◌, refl, sym, ap, ◌∙◌}
use mathlib.Core.Bool.{Bool, true, cond, true≢false}
use mathlib.Core.List.{[], ◌∷◌}
use Rattle.std.specs.Prelude.{Option, Some, None}
use Rattle.range.specs.Range.{single, block_of}
use Rattle.message.specs.declared.Kind.{Kind}
use Rattle.message.specs.declared.Kind.TheVariants.{InitializationComplete, EventReport, IdentifyConsumer, IdentifyProducer, ConsumerIdentified, ProducerIdentified, ConsumerRangeIdentified, ProducerRangeIdentified, IdentifyEvents, LearnEvent, Other}
use Rattle.message.specs.declared.Message.{Message}
use Rattle.message.specs.declared.Saying.{Saying}
use Rattle.message.specs.declared.Saying.TheVariants.{Report, Announcement, Restart, Inquiry, InquiryForAll, Learn, Nothing}
use Rattle.message.specs.Mti.{same_kind, is_restart, is_report, kind_of, mtis_of, one_of}
use Rattle.message.specs.Saying.{producer, consumer, saying, said_by}
use Rattle.message.proofs.KindsOfMti.{kind_exactly}

-- ---- exactly which MTIs say what of an event

-- A kind by what it says, tried one after the other.
abbrev tried : (Kind → Bool) → ℕ → Option ℕ → Saying
tried is e destination =
    cond (is EventReport) (Report e)
    (cond (is ConsumerIdentified) (Announcement (single e))
    (cond (is ConsumerRangeIdentified) (Announcement (block_of e))
    (cond (is InitializationComplete) Restart
    (cond (is IdentifyProducer) (Inquiry producer e)
    (cond (is IdentifyConsumer) (Inquiry consumer e) (cond (is IdentifyEvents) (InquiryForAll destination) (cond (is LearnEvent) (Learn e) Nothing)))))))

by_kind : (k : Kind) (e : ℕ) (destination : Option ℕ) → saying k (Some e) destination ≡ tried (λ x. same_kind x k) e destination
by_kind InitializationComplete e destination = refl
by_kind EventReport e destination = refl
by_kind IdentifyConsumer e destination = refl
by_kind IdentifyProducer e destination = refl
by_kind ConsumerIdentified e destination = refl
by_kind ProducerIdentified e destination = refl
by_kind ConsumerRangeIdentified e destination = refl
by_kind ProducerRangeIdentified e destination = refl
by_kind IdentifyEvents e destination = refl
by_kind LearnEvent e destination = refl
by_kind Other e destination = refl

-- What a message with an event says, by its MTI alone.
pub said_exactly : (m : Message) (e : ℕ) → m.event ≡ Some e
    → said_by m
    ≡ cond (one_of (0x05B4 ∷ 0x0F14 ∷ []) m.mti) (Report e)
    (cond (one_of (0x04C4 ∷ 0x04C5 ∷ 0x04C7 ∷ []) m.mti) (Announcement (single e))
    (cond (one_of (0x04A4 ∷ []) m.mti) (Announcement (block_of e))
    (cond (one_of (0x0100 ∷ 0x0110 ∷ []) m.mti) Restart
    (cond (one_of (0x0914 ∷ []) m.mti) (Inquiry producer e)
    (cond (one_of (0x08F4 ∷ []) m.mti) (Inquiry consumer e)
    (cond (one_of (0x0970 ∷ 0x0968 ∷ []) m.mti) (InquiryForAll m.destination) (cond (one_of (0x0594 ∷ []) m.mti) (Learn e) Nothing)))))))
unfolding said_by mtis_of
said_exactly m e p =
    ap (λ (f : Option ℕ). saying (kind_of m.mti) f m.destination) p
    ∙ by_kind (kind_of m.mti) e m.destination
    ∙ (rw (
      kind_exactly EventReport refl m.mti,
      kind_exactly ConsumerIdentified refl m.mti,
      kind_exactly ConsumerRangeIdentified refl m.mti,
      kind_exactly InitializationComplete refl m.mti,
      kind_exactly IdentifyProducer refl m.mti,
      kind_exactly IdentifyConsumer refl m.mti,
      kind_exactly IdentifyEvents refl m.mti,
      kind_exactly LearnEvent refl m.mti,
    ))

-- Without an event only Initialization Complete and Identify Events say something.
no_event : (k : Kind) (destination : Option ℕ)
    → saying k None destination ≡ cond (same_kind InitializationComplete k) Restart (cond (same_kind IdentifyEvents k) (InquiryForAll destination) Nothing)
no_event InitializationComplete destination = refl
no_event EventReport destination = refl
no_event IdentifyConsumer destination = refl
no_event IdentifyProducer destination = refl
no_event ConsumerIdentified destination = refl
no_event ProducerIdentified destination = refl
no_event ConsumerRangeIdentified destination = refl
no_event ProducerRangeIdentified destination = refl
no_event IdentifyEvents destination = refl
no_event LearnEvent destination = refl
no_event Other destination = refl

pub said_without_event : (m : Message) → m.event ≡ None
    → said_by m ≡ cond (one_of (0x0100 ∷ 0x0110 ∷ []) m.mti) Restart (cond (one_of (0x0970 ∷ 0x0968 ∷ []) m.mti) (InquiryForAll m.destination) Nothing)
unfolding said_by mtis_of
said_without_event m p =
    ap (λ (f : Option ℕ). saying (kind_of m.mti) f m.destination) p
    ∙ no_event (kind_of m.mti) m.destination
    ∙ (rw (kind_exactly InitializationComplete refl m.mti, kind_exactly IdentifyEvents refl m.mti))

-- ---- what a kind's messages say

-- A report of an event is a message of that kind with that event.
pub says_report : (m : Message) (e : ℕ) → is_report (kind_of m.mti) ≡ true → m.event ≡ Some e → said_by m ≡ Report e
unfolding said_by
says_report m e r p = ap (λ (f : Option ℕ). saying (kind_of m.mti) f m.destination) p ∙ by_kind (kind_of m.mti) e m.destination ∙ (rw r)

pub says_restart : (m : Message) → is_restart (kind_of m.mti) ≡ true → said_by m ≡ Restart
unfolding said_by
says_restart m = go (kind_of m.mti)
  where
    go : (k : Kind) → is_restart k ≡ true → saying k m.event m.destination ≡ Restart
    go InitializationComplete r = refl
    go EventReport r = absurd (true≢false (sym r))
    go IdentifyConsumer r = absurd (true≢false (sym r))
    go IdentifyProducer r = absurd (true≢false (sym r))
    go ConsumerIdentified r = absurd (true≢false (sym r))
    go ProducerIdentified r = absurd (true≢false (sym r))
    go ConsumerRangeIdentified r = absurd (true≢false (sym r))
    go ProducerRangeIdentified r = absurd (true≢false (sym r))
    go IdentifyEvents r = absurd (true≢false (sym r))
    go LearnEvent r = absurd (true≢false (sym r))
    go Other r = absurd (true≢false (sym r))
