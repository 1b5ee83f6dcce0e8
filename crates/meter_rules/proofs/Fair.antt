-- Every call of a history is fair: the box keeps its ports, an accepted message came in by one of them, and none goes back where it came from.
use Prim.Native.Nat.{ℕ, zero, suc, ◌<◌}
use mathlib.Core.Path.{◌≡◌, refl, sym, subst}
use mathlib.Core.Logic.{inl, inr}
use mathlib.Core.Bool.{Bool, true, false, cond}
use mathlib.Core.List.{List, [], ◌∷◌}
use native.Mathlib.Omega.{arith}
use borrow.Author.Tests.{leb-false}
use Rattle.basics.specs.Lists.{Among}
use Rattle.basics.specs.Refusals.{first_of, answered}
use Rattle.basics.proofs.Firsts.{first_passed, rest_passed}
use Rattle.message.specs.Reading.{message_in}
use Rattle.gateway_rules.specs.State.{Gate}
use Rattle.gateway_rules.specs.Step.{taking, refusing, step_tests, step}
use Rattle.gateway_rules.specs.History.{Entry}
use Rattle.gateway_rules.proofs.Bounds.{same_box}
use Rattle.gateway_rules.proofs.Changes.{change_of, by_step}
use Rattle.gateway_rules.proofs.Sending.{step_accepted, never_back}
use Rattle.index_rules.specs.Boxes.{Box, strays, box_step, box_next}
use Rattle.meter_rules.specs.Calls.{Call, call_of, calls}

pub record Fair (n : ℕ) (c : Call) : Type 0 where
  pub ports : c.ports ≡ n
  pub there : c.refusal ≡ 0 → c.port < n
  pub not_back : c.to c.port ≡ false

-- ---- one step

step_ports : (g : Gate) (q : ℕ) (bytes : List ℕ) → (step g q bytes).next.ports ≡ g.ports
step_ports g q bytes = by_step g q bytes (λ (x : Gate). x.ports ≡ g.ports) refl (same_box (change_of g q (message_in bytes))).0

pub step_there : (g : Gate) (q : ℕ) (bytes : List ℕ) → (step g q bytes).refusal ≡ 0 → q < g.ports
step_there g q bytes e = leb-false g.ports q (first_passed (rest_passed ((step_accepted g q bytes).0 e)))

step_not_back : (g : Gate) (q : ℕ) (bytes : List ℕ) → (step g q bytes).to q ≡ false
unfolding step
step_not_back g q bytes = go (first_of (step_tests g q bytes))
  where
    go : (n : ℕ) → (answered (taking g q) (refusing g) n (message_in bytes)).to q ≡ false
    go zero = never_back g q (message_in bytes)
    go (suc n) = refl

-- ---- one call, with the index right or not

pub ports_next : (b : Box) (q : ℕ) (bytes : List ℕ) → (box_next b q bytes).gate.ports ≡ b.gate.ports
ports_next b q bytes = go (strays b.index b.gate.lines)
  where
    go : (t : Bool) → (cond t (refusing b.gate 7) (step b.gate q bytes)).next.ports ≡ b.gate.ports
    go true = refl
    go false = step_ports b.gate q bytes

fair_call : (b : Box) (q : ℕ) (bytes : List ℕ) → Fair b.gate.ports (call_of b.gate.ports q bytes (box_step b q bytes))
fair_call b q bytes = go (strays b.index b.gate.lines)
  where
    go : (t : Bool) → Fair b.gate.ports (call_of b.gate.ports q bytes (cond t (refusing b.gate 7) (step b.gate q bytes)))
    go true = record { ports = refl; there = λ e. let w : ⊥ = omega (arith, e) in absurd w; not_back = refl }
    go false = record { ports = refl; there = step_there b.gate q bytes; not_back = step_not_back b.gate q bytes }

-- ---- every history

pub fair_calls : (b : Box) (h : List Entry) (c : Call) → Among c (calls b h) → Fair b.gate.ports c
fair_calls b [] c there = absurd there
fair_calls b (e ∷ h) c (inl same) = subst (Fair b.gate.ports) (sym same) (fair_call b e.port e.bytes)
fair_calls b (e ∷ h) c (inr later) =
    subst (λ (n : ℕ). Fair n c) (ports_next b e.port e.bytes) (fair_calls (box_next b e.port e.bytes) h c later)
