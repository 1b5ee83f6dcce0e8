-- The marks below i are settled, the others as they were.
use Prim.Native.Nat.{ℕ}
use mathlib.Core.Path.{◌≡◌}
use mathlib.Core.Bool.{cond}
use mathlib.Core.List.{List, ◌++◌}
use lib.ListN.{get_or, drop}
use Rattle.node_rules.specs.Boards.{advertised, has_at}
use Rattle.basics.specs.Lists.{each}
use Rattle.node.proofs.board.Board.advertise.Given as goal

abbrev pub settled : List ℕ → List ℕ → ℕ → List ℕ → ℕ → ℕ
settled roles events slot marks i = cond (has_at roles events (get_or roles slot 0) (get_or events slot 0) i) advertised (get_or marks i 0)

abbrev pub invariant-loop-i : goal.invariant-loop-i
invariant-loop-i l = l.mark-items ≡ each l.i (settled l.roles l.events l.slot l.initial.mark-items) ++ drop l.i l.initial.mark-items
