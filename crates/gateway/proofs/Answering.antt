-- What the box is to answer when it is asked why, once the code's tests are known.
use Prim.Native.Nat.{ℕ, ◌/◌, ◌%◌, ◌^◌, ◌<◌, ◌≤◌}
use mathlib.Core.Path.{◌≡◌, refl, ap}
use mathlib.Core.Bool.{true, false, ◌||◌, or-true}
use mathlib.Core.List.{List, [], ◌∷◌}
use borrow.Author.Tests.{eq-eqb, ne_eqb, le-leb, lt-leb}
use native.Mathlib.Omega.{arith}
use lib.Dec.{leb}
use lib.ListN.{length}
use denote.Enum.Declared.{tag_of, declared}
use types.Run.{OneOf, miss}
use Rattle.range.specs.Range.{in_block}
use Rattle.basics.specs.Refusals.{Told}
use Rattle.message.specs.contracts.Saying.{enum as sayings}
use Rattle.message.specs.declared.Saying.{Saying}
use Rattle.message.specs.declared.Saying.TheVariants.{Report, Announcement, Restart, Inquiry, InquiryForAll, Learn, Nothing}
use Rattle.gateway_rules.specs.declared.Reason.{Reason}
use Rattle.gateway_rules.specs.declared.Reason.TheVariants.{ArrivalPort, AutomaticEvent, OpenPort}
use Rattle.basics.specs.Lists.{first_or}
use Rattle.gateway_rules.specs.Reasons.{Numbered, reason_told, reason_for, by_line, first_holding, event_of}
use Rattle.gateway.specs.declared.state.Head.{Head}
use Rattle.gateway.specs.State.{Lists, lines_in, gate_in}
use Rattle.std.specs.Prelude.{Result, Ok, Err}
use Rattle.basics.specs.declared.Refusal.{Refusal}
use Rattle.basics.proofs.Numbers.{refusal_once}
use Rattle.gateway.specs.Asking.{answer_told}
use Rattle.gateway_rules.proofs.Asking.{reason_once}

-- ---- the reason

module _ (head : Head) (t : Lists) (q e p : ℕ) where
  abbrev reason : Reason
  reason = reason_for (gate_in head t) q e p

  pub by_arrival : p ≡ q → ArrivalPort ≡ reason
  unfolding reason_for
  by_arrival a = rw (eq-eqb p q a)

  pub by_automatic : (p ≡ q → ⊥) → in_block head.automatic e ≡ true → AutomaticEvent ≡ reason
  unfolding reason_for gate_in
  by_automatic other a = rw (ne_eqb p q other, a)

  pub by_mark_lem : (p ≡ q → ⊥) → in_block head.automatic e ≡ false → head.marks / 2 ^ p % 2 ≡ 1 → OpenPort ≡ reason
  unfolding reason_for gate_in
  by_mark_lem other a m = rw (ne_eqb p q other, a, eq-eqb (head.marks / 2 ^ p % 2) 1 m)

  pub by_lines : (p ≡ q → ⊥) → in_block head.automatic e ≡ false → (head.marks / 2 ^ p % 2 ≡ 1 → ⊥) → by_line (first_holding p e 0 (lines_in head.count t)) ≡ reason
  unfolding reason_for gate_in
  by_lines other a m = rw (ne_eqb p q other, a, ne_eqb (head.marks / 2 ^ p % 2) 1 m)

-- ---- the answer

-- What is told decides it.
pub why_once : (x y : Result Reason Refusal) → answer_told x ≡ answer_told y → x ≡ y
why_once (Ok a) (Ok b) e = ap Ok (reason_once a b (ap (λ (t : Told (List Numbered)). first_or (reason_told a) (λ n. n) t.value) e))
why_once (Ok a) (Err r) e = absurd (omega (arith, ap (λ (t : Told (List Numbered)). length t.value) e))
why_once (Err r) (Ok b) e = absurd (omega (arith, ap (λ (t : Told (List Numbered)). length t.value) e))
why_once (Err r) (Err s) e = ap Err (refusal_once r s (ap (λ (t : Told (List Numbered)). t.refusal) e))

-- What is no report has no event.
pub no_event : (s : Saying) → OneOf (1 ∷ 2 ∷ 3 ∷ 4 ∷ 5 ∷ 6 ∷ []) (tag_of (declared sayings) s) → event_of s ≡ []
no_event (Report e) k = absurd (miss (1 ∷ 2 ∷ 3 ∷ 4 ∷ 5 ∷ 6 ∷ []) 0 tt k)
no_event (Announcement b) k = refl
no_event Restart k = refl
no_event (Inquiry role e) k = refl
no_event (InquiryForAll destination) k = refl
no_event (Learn e) k = refl
no_event Nothing k = refl

-- Either port is not there, or both are.
module _ (head : Head) (t : Lists) (q p : ℕ) where
  pub arrival_past : head.ports ≤ q → (leb (gate_in head t).ports q || leb (gate_in head t).ports p) ≡ true
  unfolding gate_in
  arrival_past l = rw (le-leb head.ports q l)

  pub asked_past : head.ports ≤ p → (leb (gate_in head t).ports q || leb (gate_in head t).ports p) ≡ true
  unfolding gate_in
  asked_past l = rw (le-leb head.ports p l) (or-true (leb head.ports q))

  pub both_there : q < head.ports → p < head.ports → (leb (gate_in head t).ports q || leb (gate_in head t).ports p) ≡ false
  unfolding gate_in
  both_there k l = rw (lt-leb head.ports q k, lt-leb head.ports p l)
