-- G1: each refusal exactly when and in order; a refusal is sent nowhere and keeps the state; what is no report goes to every port but its own.
use Prim.Native.Nat.{ℕ, zero, suc, ◌≤◌, ◌<◌}
use mathlib.Core.Path.{◌≡◌, refl, sym, ◌∙◌}
use mathlib.Core.Logic.{◌↔◌}
use mathlib.Core.Bool.{Bool, true, false, cond, not, ◌&&◌, and-false}
use mathlib.Core.List.{List}
use borrow.Author.Tests.{ltb-true, lt-ltb, eq-eqb, ne_eqb, eqb-false, not-true, not-false, leb-true, le-leb}
use lib.Dec.{eqb, ltb, leb}
use Rattle.basics.proofs.Bools.{both}
use Rattle.message.specs.declared.Message.{Message}
use Rattle.message.specs.Mti.{is_report, kind_of}
use Rattle.message.specs.Reading.{message_in}
use Rattle.basics.specs.Refusals.{first_of, answered, None, Given}
use Rattle.basics.proofs.Firsts.{first_none, first_given}
use Rattle.gateway_rules.proofs.Said.{others_wanted}
use Rattle.gateway_rules.specs.State.{Gate, bad_ports, out_of_bounds, start_of}
use Rattle.gateway_rules.specs.Step.{goes_to, taking, refusing, step_tests, step, starting, start}

-- ---- refusals

-- The number answered is the first test's that applies.
refusal_number : (g : Gate) (q n : ℕ) (m : Message) → (answered (taking g q) (refusing g) n m).refusal ≡ n
refusal_number g q zero m = refl
refusal_number g q (suc n) m = refl

pub refusal_first : (g : Gate) (q : ℕ) (bytes : List ℕ) → (step g q bytes).refusal ≡ first_of (step_tests g q bytes)
unfolding step
refusal_first g q bytes = refusal_number g q (first_of (step_tests g q bytes)) (message_in bytes)

pub step_refused : (g : Gate) (q : ℕ) (bytes : List ℕ) (n : ℕ) → (n ≡ 0 → ⊥) → ((step g q bytes).refusal ≡ n) ↔ Given n (step_tests g q bytes)
step_refused g q bytes n p =
    let f = first_given (step_tests g q bytes) n p in
    (λ e. f.0 (sym (refusal_first g q bytes) ∙ e), λ k. refusal_first g q bytes ∙ f.1 k)

pub step_accepted : (g : Gate) (q : ℕ) (bytes : List ℕ) → ((step g q bytes).refusal ≡ 0) ↔ None (step_tests g q bytes)
step_accepted g q bytes =
    let f = first_none (step_tests g q bytes) refl in
    (λ e. f.0 (sym (refusal_first g q bytes) ∙ e), λ k. refusal_first g q bytes ∙ f.1 k)

-- A refusal sends nothing and keeps the state.
pub refused_nothing : (g : Gate) (q : ℕ) (bytes : List ℕ) → ((step g q bytes).refusal ≡ 0 → ⊥) → ((step g q bytes).next ≡ g) × ((p : ℕ) → (step g q bytes).to p ≡ false)
unfolding step
refused_nothing g q bytes h = go (first_of (step_tests g q bytes)) h
  where
    go : (n : ℕ) → ((answered (taking g q) (refusing g) n (message_in bytes)).refusal ≡ 0 → ⊥)
        → ((answered (taking g q) (refusing g) n (message_in bytes)).next ≡ g) × ((p : ℕ) → (answered (taking g q) (refusing g) n (message_in bytes)).to p ≡ false)
    go zero k = absurd (k refl)
    go (suc n) k = (refl, λ _. refl)

-- ---- starts

-- A port count that is not 2 to 8 is refusal 8, and any other is none.
pub start_refused : (ports r : ℕ) → ((start ports r).refusal ≡ cond (bad_ports ports) 8 0) × ((start ports r).next ≡ cond (bad_ports ports) (start_of 0 r) (start_of ports r))
unfolding start
start_refused ports r = go (bad_ports ports)
  where
    go : (t : Bool)
        → ((answered (starting 0) (λ n. starting n (start_of 0 r)) (cond t 8 0) (start_of ports r)).refusal ≡ cond t 8 0)
        × ((answered (starting 0) (λ n. starting n (start_of 0 r)) (cond t 8 0) (start_of ports r)).next ≡ cond t (start_of 0 r) (start_of ports r))
    go true = (refl, refl)
    go false = (refl, refl)

pub two_to_eight : (ports : ℕ) → (bad_ports ports ≡ false) ↔ ((2 ≤ ports) × (ports ≤ 8))
two_to_eight ports = (
  λ e.
      let h = both (leb 2 ports) (leb ports 8) (not-false (leb 2 ports && leb ports 8) e) in
      (leb-true 2 ports h.0, leb-true ports 8 h.1),
  λ h. rw (le-leb 2 ports h.0, le-leb ports 8 h.1),
)

-- A refused start is refused by every call, with 7.
pub refused_start_refuses : (r q : ℕ) (bytes : List ℕ) → (step (start_of 0 r) q bytes).refusal ≡ 7
unfolding out_of_bounds
refused_start_refuses r q bytes = refusal_first (start_of 0 r) q bytes

-- ---- where a message goes

-- Nothing goes back where it came from.
pub never_back : (g : Gate) (q : ℕ) (m : Message) → goes_to g q m q ≡ false
unfolding goes_to
never_back g q m = rw (eq-eqb q q refl) (and-false (ltb q g.ports))

-- A message that is no report goes to every port but its own, and only to those.
pub others_go : (g : Gate) (q p : ℕ) (m : Message) → is_report (kind_of m.mti) ≡ false → (goes_to g q m p ≡ true) ↔ ((p < g.ports) × (p ≡ q → ⊥))
unfolding goes_to
others_go g q p m e = rw (others_wanted g p m e) (
  λ t.
      let h = both (ltb p g.ports) (not (eqb p q) && true) t in
      let k = both (not (eqb p q)) true h.1 in
      (ltb-true p g.ports h.0, eqb-false p q (not-true (eqb p q) k.0)),
  λ h. rw (lt-ltb p g.ports h.0, ne_eqb p q h.1),
)
