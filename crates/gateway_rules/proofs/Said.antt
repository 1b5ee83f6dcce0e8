-- What a message can say by its kind: only reports report, and only blocks are announced.
use Prim.Native.Nat.{ℕ}
use mathlib.Core.Path.{◌≡◌, refl, sym, ap, ◌∙◌}
use mathlib.Core.Bool.{Bool, true, false, true≢false}
use Rattle.std.specs.Prelude.{Option, Some, None}
use Rattle.range.specs.declared.Block.{Block}
use Rattle.range.specs.Range.{is_block}
use Rattle.range.proofs.Laws.{single_block, block_of_block}
use Rattle.message.specs.declared.Kind.{Kind}
use Rattle.message.specs.declared.Kind.TheVariants.{InitializationComplete, EventReport, IdentifyConsumer, IdentifyProducer, ConsumerIdentified, ProducerIdentified, ConsumerRangeIdentified, ProducerRangeIdentified, IdentifyEvents, LearnEvent, Other}
use Rattle.message.specs.declared.Message.{Message}
use Rattle.message.specs.declared.Saying.{Saying}
use Rattle.message.specs.declared.Saying.TheVariants.{Report, Announcement, Restart, Inquiry, InquiryForAll, Learn, Nothing}
use Rattle.message.specs.Mti.{is_report, kind_of}
use Rattle.message.specs.Saying.{of_event, saying, said_by}
use Rattle.gateway_rules.specs.State.{Gate}
use Rattle.gateway_rules.specs.Step.{wanted_at}

abbrev fits : Kind → Saying → Bool
fits k (Report e) = is_report k
fits k (Announcement b) = is_block b
fits k Restart = true
fits k (Inquiry role e) = true
fits k (InquiryForAll destination) = true
fits k (Learn e) = true
fits k Nothing = true

of_event_lem : (k : Kind) (says : ℕ → Saying) → ((e : ℕ) → fits k (says e) ≡ true) → (f : Option ℕ) → fits k (of_event says f) ≡ true
of_event_lem k says h (Some e) = h e
of_event_lem k says h None = refl

by_kind : (k : Kind) (event destination : Option ℕ) → fits k (saying k event destination) ≡ true
by_kind EventReport f d = of_event_lem EventReport _ (λ _. refl) f
by_kind ConsumerIdentified f d = of_event_lem ConsumerIdentified _ single_block f
by_kind ConsumerRangeIdentified f d = of_event_lem ConsumerRangeIdentified _ block_of_block f
by_kind IdentifyConsumer f d = of_event_lem IdentifyConsumer _ (λ _. refl) f
by_kind IdentifyProducer f d = of_event_lem IdentifyProducer _ (λ _. refl) f
by_kind LearnEvent f d = of_event_lem LearnEvent _ (λ _. refl) f
by_kind InitializationComplete f d = refl
by_kind IdentifyEvents f d = refl
by_kind ProducerIdentified f d = refl
by_kind ProducerRangeIdentified f d = refl
by_kind Other f d = refl

said_fits : (m : Message) → fits (kind_of m.mti) (said_by m) ≡ true
unfolding said_by
said_fits m = by_kind (kind_of m.mti) m.event m.destination

pub announcement_block : (m : Message) (b : Block) → said_by m ≡ Announcement b → is_block b ≡ true
announcement_block m b e = sym (ap (fits (kind_of m.mti)) e) ∙ said_fits m

pub report_kind : (m : Message) (e : ℕ) → said_by m ≡ Report e → is_report (kind_of m.mti) ≡ true
report_kind m e s = sym (ap (fits (kind_of m.mti)) s) ∙ said_fits m

-- A message that is no report is wanted everywhere.
pub others_wanted : (g : Gate) (p : ℕ) (m : Message) → is_report (kind_of m.mti) ≡ false → wanted_at g p (said_by m) ≡ true
others_wanted g p m e = go (said_by m) (said_fits m)
  where
    go : (s : Saying) → fits (kind_of m.mti) s ≡ true → wanted_at g p s ≡ true
    go (Report x) h = absurd (true≢false (sym h ∙ e))
    go (Announcement b) h = refl
    go Restart h = refl
    go (Inquiry role x) h = refl
    go (InquiryForAll to) h = refl
    go (Learn x) h = refl
    go Nothing h = refl
