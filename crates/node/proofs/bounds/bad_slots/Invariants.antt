-- The slots below i are good.
use Prim.Native.Nat.{ℕ}
use mathlib.Core.Path.{◌≡◌}
use mathlib.Core.Bool.{Bool, false}
use mathlib.Core.List.{List}
use lib.ListN.{get_or}
use Rattle.basics.specs.Sets.{any_below}
use Rattle.node_rules.specs.Boards.{bad_slot}
use Rattle.node.proofs.bounds.bad_slots.Given as goal

abbrev pub bad_at : ℕ → List ℕ → List ℕ → List ℕ → ℕ → Bool
bad_at state roles statuses marks i = bad_slot state (get_or roles i 0) (get_or statuses i 0) (get_or marks i 0)

abbrev pub invariant-loop-i : goal.invariant-loop-i
invariant-loop-i l = any_below l.i (bad_at l.state l.roles l.statuses l.marks) ≡ false
