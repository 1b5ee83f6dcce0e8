-- The marks below i are settled, the others as they were.
use Prim.Native.Nat.{ℕ}
use mathlib.Core.Path.{◌≡◌}
use mathlib.Core.Bool.{Bool, cond}
use mathlib.Core.List.{List, ◌++◌}
use lib.ListN.{get_or, drop}
use Rattle.range.specs.declared.Block.{Block}
use Rattle.range.specs.Range.{in_block}
use Rattle.node_rules.specs.Boards.{advertised, unadvertised}
use Rattle.basics.specs.Lists.{each}
use Rattle.node.proofs.board.Board.restart.Given as goal

abbrev pub mark_of : Bool → ℕ
mark_of automatic = cond automatic advertised unadvertised

abbrev pub settled : Block → List ℕ → ℕ → ℕ
settled automatic events i = mark_of (in_block automatic (get_or events i 0))

abbrev pub invariant-loop-i : goal.invariant-loop-i
invariant-loop-i l = l.mark-items ≡ each l.i (settled l.automatic l.events) ++ drop l.i l.initial.mark-items
