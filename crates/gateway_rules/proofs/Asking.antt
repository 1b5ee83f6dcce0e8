-- W1: each refusal exactly when and in its order, what an accepted question tells, and that what is told decides the reason.
use Prim.Native.Nat.{ℕ, zero, suc, ◌<◌, ◌≤◌}
use mathlib.Core.Path.{◌≡◌, refl, sym, ap, ◌∙◌}
use mathlib.Core.Logic.{◌↔◌, ⊎_elim}
use mathlib.Core.Bool.{Bool, true, false, cond, not, ◌&&◌, ◌||◌, or-false, true≢false}
use mathlib.Core.List.{List, [], ◌∷◌, ◌++◌}
use native.Mathlib.Omega.{arith}
use borrow.Author.Tests.{leb-false, lt-leb, not-false}
use lib.Dec.{eqb, leb}
use lib.ListN.{length}
use Rattle.std.specs.Prelude.{Ok, Err}
use Rattle.range.specs.Range.{is_block}
use Rattle.basics.specs.Lists.{any, first_or}
use Rattle.basics.specs.Refusals.{refuse, first_of, answered, Told, told, refused, None, Given}
use Rattle.basics.proofs.Bools.{neither}
use Rattle.basics.proofs.Lists.{any_append}
use Rattle.basics.proofs.Firsts.{first_some, first_after, first_none, first_given, first_up_to, first_passed, rest_passed, told_number_lem, answered_yes, answered_no}
use Rattle.message.specs.declared.Message.{Message}
use Rattle.message.specs.declared.Saying.{Saying}
use Rattle.message.specs.declared.Saying.TheVariants.{Report, Announcement, Restart, Inquiry, InquiryForAll, Learn, Nothing}
use Rattle.message.specs.Messages.{bad_node}
use Rattle.message.specs.Mti.{is_report, kind_of}
use Rattle.message.specs.Reading.{message_in, read_tests, read_of}
use Rattle.message.specs.Saying.{said_by}
use Rattle.gateway_rules.specs.declared.Holder.{Holder}
use Rattle.gateway_rules.specs.declared.Reason.{Reason}
use Rattle.gateway_rules.specs.declared.Reason.TheVariants.{ArrivalPort, AutomaticEvent, OpenPort, HeldBy, NothingHolds}
use Rattle.gateway_rules.specs.State.{Gate, bad_line, bad_beside_lines, out_of_bounds}
use Rattle.gateway_rules.specs.Step.{step_tests, step, start}
use Rattle.gateway_rules.specs.History.{Entry, after, accepted, Reports, HeldBack}
use Rattle.gateway_rules.specs.Reasons.{reason_for, Numbered, reason_told, number_in, event_of, reported_in, why_tests, why_told}
use Rattle.message.proofs.Exactly.{read_accepted}
use Rattle.gateway_rules.proofs.Said.{report_kind}
use Rattle.gateway_rules.proofs.Holding.{true_or_false}
use Rattle.gateway_rules.proofs.Sending.{refusal_first}
use Rattle.gateway_rules.proofs.Reported.{accepted_reports}
use Rattle.gateway_rules.proofs.Reasons.{reason_sends, sends_number, line_named, nothing_exactly}

-- ---- refusals

pub why_number : (g : Gate) (q p : ℕ) (bytes : List ℕ) → (why_told g q p bytes).refusal ≡ first_of (why_tests g q p bytes)
unfolding why_told
why_number g q p bytes = told_number_lem (why_tests g q p bytes) (reason_told (reason_for g q (first_or 0 (λ e. e) (reported_in bytes)) p))

pub why_refused : (g : Gate) (q p : ℕ) (bytes : List ℕ) (n : ℕ) → (n ≡ 0 → ⊥) → ((why_told g q p bytes).refusal ≡ n) ↔ Given n (why_tests g q p bytes)
why_refused g q p bytes n z =
    let f = first_given (why_tests g q p bytes) n z in
    (λ e. f.0 (sym (why_number g q p bytes) ∙ e), λ k. why_number g q p bytes ∙ f.1 k)

pub why_accepted : (g : Gate) (q p : ℕ) (bytes : List ℕ) → ((why_told g q p bytes).refusal ≡ 0) ↔ None (why_tests g q p bytes)
why_accepted g q p bytes =
    let f = first_none (why_tests g q p bytes) refl in
    (λ e. f.0 (sym (why_number g q p bytes) ∙ e), λ k. why_number g q p bytes ∙ f.1 k)

-- No refusal is above 15.
pub why_up_to : (g : Gate) (q p : ℕ) (bytes : List ℕ) → (why_told g q p bytes).refusal ≤ 15
why_up_to g q p bytes = omega (arith, why_number g q p bytes, first_up_to 15 (why_tests g q p bytes) refl)

-- No reason's number is above 5.
pub reason_up_to : (g : Gate) (q p : ℕ) (bytes : List ℕ) → number_in (why_told g q p bytes) ≤ 5
unfolding why_told
reason_up_to g q p bytes = go (first_of (why_tests g q p bytes)) (reason_for g q (first_or 0 (λ e. e) (reported_in bytes)) p)
  where
    one : (r : Reason) → (reason_told r).number ≤ 5
    one ArrivalPort = omega arith
    one AutomaticEvent = omega arith
    one OpenPort = omega arith
    one (HeldBy l) = omega arith
    one NothingHolds = omega arith

    go : (n : ℕ) (r : Reason) → first_or 0 (λ x. x.number) (answered (λ y. told (y ∷ [])) (λ k. refused k []) n (reason_told r)).value ≤ 5
    go zero r = one r
    go (suc n) r = omega arith

-- ---- asked of a port that is there: the gateway call's refusal, and 15 where it has none and the message is no report

abbrev no_report : List ℕ → Bool
no_report bytes = first_or true (λ _. false) (reported_in bytes)

module _ (g : Gate) (q p : ℕ) (bytes : List ℕ) (there : p < g.ports) where
  tests_there : why_tests g q p bytes ≡ step_tests g q bytes ++ (refuse 15 (no_report bytes) ∷ [])
  tests_there =
      ap (λ (t : Bool). refuse 7 (out_of_bounds g) ∷ refuse 8 t ∷ (read_tests bytes ++ (refuse 15 (no_report bytes) ∷ [])))
      (ap (λ (t : Bool). leb g.ports q || t) (lt-leb g.ports p there) ∙ or-false (leb g.ports q))

  pub as_the_step : ((step g q bytes).refusal ≡ 0 → ⊥) → (why_told g q p bytes).refusal ≡ (step g q bytes).refusal
  as_the_step h =
      why_number g q p bytes
      ∙ ap first_of tests_there
      ∙ first_some (step_tests g q bytes) (refuse 15 (no_report bytes) ∷ []) (λ z. h (refusal_first g q bytes ∙ z))
      ∙ sym (refusal_first g q bytes)

  pub after_the_step : (step g q bytes).refusal ≡ 0 → (why_told g q p bytes).refusal ≡ cond (no_report bytes) 15 0
  after_the_step a =
      why_number g q p bytes
      ∙ ap first_of tests_there
      ∙ first_after ((first_none (step_tests g q bytes) refl).0 (sym (refusal_first g q bytes) ∙ a)) (refuse 15 (no_report bytes) ∷ [])

-- ---- accepted

-- Whoever is answered has asked of a port that is there.
pub asked_there : (g : Gate) (q p : ℕ) (bytes : List ℕ) → (why_told g q p bytes).refusal ≡ 0 → p < g.ports
asked_there g q p bytes a =
    let ports = first_passed (rest_passed ((why_accepted g q p bytes).0 a)) in
    leb-false g.ports p (neither (leb g.ports q) (leb g.ports p) ports).1

report_of : (s : Saying) → first_or true (λ _. false) (event_of s) ≡ false → s ≡ Report (first_or 0 (λ e. e) (event_of s))
report_of (Report e) t = refl
report_of (Announcement b) t = absurd (true≢false t)
report_of Restart t = absurd (true≢false t)
report_of (Inquiry role e) t = absurd (true≢false t)
report_of (InquiryForAll destination) t = absurd (true≢false t)
report_of (Learn e) t = absurd (true≢false t)
report_of Nothing t = absurd (true≢false t)

-- An accepted question is about a report that the gateway call accepts, and is told the reason of its event.
pub record Answered (g : Gate) (q p : ℕ) (bytes : List ℕ) : Type 0 where
  pub event : ℕ
  pub reports : Reports event (message_in bytes)
  pub accepted : (step g q bytes).refusal ≡ 0
  pub told : why_told g q p bytes ≡ told (reason_told (reason_for g q event p) ∷ [])

pub why_answered : (g : Gate) (q p : ℕ) (bytes : List ℕ) → (why_told g q p bytes).refusal ≡ 0 → Answered g q p bytes
unfolding why_told
why_answered g q p bytes a =
    let taken = accepted_step (step g q bytes).refusal refl in
    let report = no_fifteen (no_report bytes) (sym (after_the_step g q p bytes (asked_there g q p bytes a) taken) ∙ a) in
    record {
      event = first_or 0 (λ e. e) (reported_in bytes);
      reports = record { says = report_of (said_by (message_in bytes)) report };
      accepted = taken;
      told = answered_yes (λ y. told (y ∷ [])) (λ n. refused n []) _ (sym (why_number g q p bytes) ∙ a);
    }
  where
    accepted_step : (n : ℕ) → (step g q bytes).refusal ≡ n → (step g q bytes).refusal ≡ 0
    accepted_step zero e = e
    accepted_step (suc n) e = let same = as_the_step g q p bytes (asked_there g q p bytes a) (λ z. omega (arith, e, z)) in absurd (omega (arith, same, e, a))

    no_fifteen : (t : Bool) → ◌≡◌ {A = ℕ} (cond t 15 0) 0 → t ≡ false
    no_fifteen true e = absurd (omega (arith, e))
    no_fifteen false e = refl

-- THEOREM, in document 02's numbers: a report is sent to the asked port exactly when what is told is 2, 3 or 4.
pub told_sent : (g : Gate) (q p : ℕ) (bytes : List ℕ) → (why_told g q p bytes).refusal ≡ 0
    → (step g q bytes).to p ≡ (leb 2 (number_in (why_told g q p bytes)) && leb (number_in (why_told g q p bytes)) 4)
told_sent g q p bytes a =
    let w = why_answered g q p bytes a in
    reason_sends g q bytes w.accepted w.event w.reports p (asked_there g q p bytes a)
    ∙ sends_number (reason_for g q w.event p)
    ∙ ap (λ (t : Told (List Numbered)). leb 2 (number_in t) && leb (number_in t) 4) (sym w.told)

-- THEOREM: from any start, over any messages in any order, 5 is told of another port than that of arrival exactly when demand 3 holds the report back.
pub told_nothing : (ports r : ℕ) → (start ports r).refusal ≡ 0 → (h : List Entry) (q p : ℕ) (bytes : List ℕ) → (p ≡ q → ⊥)
    → (w : Answered (after (start ports r).next h) q p bytes)
    → (number_in (why_told (after (start ports r).next h) q p bytes) ≡ 5) ↔ HeldBack (start ports r).next (accepted ports h) p w.event
told_nothing ports r s h q p bytes other w =
    let g = after (start ports r).next h in
    let number : number_in (why_told g q p bytes) ≡ (reason_told (reason_for g q w.event p)).number = ap number_in w.told in
    let exactly = nothing_exactly ports r s h q w.event p other in
    (λ n. exactly.0 (five (reason_for g q w.event p) (sym number ∙ n)), λ k. number ∙ ap (λ (x : Reason). (reason_told x).number) (exactly.1 k))
  where
    five : (x : Reason) → (reason_told x).number ≡ 5 → x ≡ NothingHolds
    five ArrivalPort n = absurd (omega (arith, n))
    five AutomaticEvent n = absurd (omega (arith, n))
    five OpenPort n = absurd (omega (arith, n))
    five (HeldBy l) n = absurd (omega (arith, n))
    five NothingHolds n = refl

-- 15 is for what is read and is no report by its MTI.
pub no_report_kind : (bytes : List ℕ) (m : Message) → read_of bytes ≡ Ok m → no_report bytes ≡ not (is_report (kind_of m.mti))
no_report_kind bytes m r = go (is_report (kind_of m.mti)) refl
  where
    held : m ≡ message_in bytes
    held = ((read_accepted bytes m).0 r).1

    go : (t : Bool) → is_report (kind_of m.mti) ≡ t → no_report bytes ≡ not t
    go true k =
        let (e, says) = accepted_reports bytes m r k in
        ap (λ (s : Saying). first_or true (λ _. false) (event_of s)) (ap said_by (sym held) ∙ says.says)
    go false k = ⊎_elim (λ t. t) (λ t. absurd (true≢false (sym (report_kind m _ (ap said_by held ∙ report_of (said_by (message_in bytes)) t)) ∙ k))) (true_or_false (no_report bytes))

-- ---- by the tests, in their order

-- What the bytes read as decides the number.
unread : (k n : ℕ) (m : Message) → answered Ok Err k m ≡ Err n → (k ≡ n) × (n ≡ 0 → ⊥)
unread zero n m e = let z : ◌≡◌ {A = ℕ} 0 1 = cc in absurd (omega arith)
unread (suc k) n m e = let same : suc k ≡ n = cc in (same, λ z. omega (arith, same, z))

module _ (g : Gate) (q p : ℕ) (bytes : List ℕ) where
  pub why_at_7 : out_of_bounds g ≡ true → why_told g q p bytes ≡ refused 7 []
  unfolding why_told
  why_at_7 o = rw o

  module _ (o : out_of_bounds g ≡ false) where
    pub why_at_8 : (leb g.ports q || leb g.ports p) ≡ true → why_told g q p bytes ≡ refused 8 []
    unfolding why_told
    why_at_8 l = rw (o, l)

    module _ (l : (leb g.ports q || leb g.ports p) ≡ false) where
      reads : first_of (why_tests g q p bytes) ≡ first_of (read_tests bytes ++ (refuse 15 (no_report bytes) ∷ []))
      reads = rw (o, l)

      by_number : {n : ℕ} → first_of (why_tests g q p bytes) ≡ n → (n ≡ 0 → ⊥) → why_told g q p bytes ≡ refused n []
      unfolding why_told
      by_number {n} e z =
          let reason = reason_told (reason_for g q (first_or 0 (λ e. e) (reported_in bytes)) p) in
          ap (λ (k : ℕ). answered (λ y. told (y ∷ [])) (λ i. refused i []) k reason) e ∙ answered_no (λ y. told (y ∷ [])) (λ i. refused i []) n reason z

      -- A message that is not read.
      pub why_unread : (n : ℕ) → read_of bytes ≡ Err n → why_told g q p bytes ≡ refused n []
      unfolding read_of
      why_unread n r =
          let h = unread (first_of (read_tests bytes)) n (message_in bytes) r in
          by_number (reads ∙ first_some (read_tests bytes) (refuse 15 (no_report bytes) ∷ []) (λ z. h.1 (sym h.0 ∙ z)) ∙ h.0) h.1

      module _ (m : Message) (r : read_of bytes ≡ Ok m) where
        none : None (read_tests bytes)
        none = ((read_accepted bytes m).0 r).0

        held_in : {s : Saying} → s ≡ said_by m → s ≡ said_by (message_in bytes)
        held_in e = e ∙ ap said_by ((read_accepted bytes m).0 r).1

        -- One that is read and is no report.
        pub why_at_15 : (s : Saying) → s ≡ said_by m → event_of s ≡ [] → why_told g q p bytes ≡ refused 15 []
        why_at_15 s e f =
            let fifteen : no_report bytes ≡ true = ap (λ (x : Saying). first_or true (λ _. false) (event_of x)) (sym (held_in e)) ∙ ap (λ (l : List ℕ). first_or true (λ _. false) l) f in
            by_number (reads ∙ first_after none (refuse 15 (no_report bytes) ∷ []) ∙ ap (λ (t : Bool). cond t 15 0) fifteen) (λ z. omega (arith, z))

        -- A report.
        pub why_because : (s : Saying) (e : ℕ) → s ≡ said_by m → s ≡ Report e → why_told g q p bytes ≡ told (reason_told (reason_for g q e p) ∷ [])
        unfolding why_told
        why_because s e f k =
            let said : said_by (message_in bytes) ≡ Report e = sym (held_in f) ∙ k in
            let zero : first_of (why_tests g q p bytes) ≡ 0
            = reads ∙ first_after none (refuse 15 (no_report bytes) ∷ []) ∙ ap (λ (x : Saying). cond (first_or true (λ _. false) (event_of x)) 15 0) said in
            answered_yes (λ y. told (y ∷ [])) (λ i. refused i []) (reason_told (reason_for g q (first_or 0 (λ e. e) (reported_in bytes)) p)) zero
            ∙ ap (λ (x : Saying). told (reason_told (reason_for g q (first_or 0 (λ e. e) (event_of x)) p) ∷ [])) said

-- ---- what is told

-- It decides the reason.
pub reason_once : (x y : Reason) → reason_told x ≡ reason_told y → x ≡ y
reason_once x y e = sym (back x) ∙ ap from e ∙ back y
  where
    from : Numbered → Reason
    from t = first_or (cond (eqb t.number 1) ArrivalPort (cond (eqb t.number 2) AutomaticEvent (cond (eqb t.number 3) OpenPort NothingHolds))) HeldBy t.named

    back : (r : Reason) → from (reason_told r) ≡ r
    back ArrivalPort = refl
    back AutomaticEvent = refl
    back OpenPort = refl
    back (HeldBy l) = refl
    back NothingHolds = refl

-- In a state in bounds, the block of a line that is named is one.
pub named_block : (g : Gate) (q e p : ℕ) (l : Holder) → out_of_bounds g ≡ false → reason_for g q e p ≡ HeldBy l → is_block l.block ≡ true
unfolding out_of_bounds
named_block g q e p l o f =
    let w = line_named g q e p l f in
    let good = (neither (bad_beside_lines g.ports (length g.lines) g.marked g.automatic) (any (bad_line g.ports) g.lines) o).1 in
    let split = sym (any_append (bad_line g.ports) w.before (w.line ∷ w.later)) ∙ sym (ap (any (bad_line g.ports)) w.table) ∙ good in
    let this = (neither (bad_line g.ports w.line) _ (neither (any (bad_line g.ports) w.before) _ split).1).0 in
    let block = (neither (bad_node w.line.node) (not (is_block w.line.block)) (neither (leb g.ports w.line.port) _ this).1).1 in
    ap is_block w.block ∙ not-false (is_block w.line.block) block
