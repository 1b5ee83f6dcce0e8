-- The slots below j have another role or Event ID.
use Prim.Native.Nat.{ℕ}
use mathlib.Core.Path.{◌≡◌}
use mathlib.Core.Bool.{Bool, false}
use mathlib.Core.List.{List}
use lib.ListN.{get_or}
use Rattle.basics.specs.Sets.{any_below}
use Rattle.node_rules.specs.Boards.{has_at}
use Rattle.node.proofs.board.Board.is_lowest.Given as goal

-- Slot j has the role and Event ID of slot i.
abbrev pub alike : List ℕ → List ℕ → ℕ → ℕ → Bool
alike roles events i = has_at roles events (get_or roles i 0) (get_or events i 0)

abbrev pub invariant-loop-j : goal.invariant-loop-j
invariant-loop-j l = any_below l.j (alike l.self.roles.now l.self.events.now l.i) ≡ false
