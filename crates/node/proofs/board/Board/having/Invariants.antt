-- The slots below i are settled.
use mathlib.Core.Path.{◌≡◌}
use Rattle.basics.specs.Sets.{set_of}
use Rattle.node_rules.specs.Boards.{has_at}
use Rattle.node.proofs.board.Board.having.Given as goal

abbrev pub invariant-loop-i : goal.invariant-loop-i
invariant-loop-i l = l.set ≡ set_of l.i (has_at l.self.roles.now l.self.events.now l.role l.event)
