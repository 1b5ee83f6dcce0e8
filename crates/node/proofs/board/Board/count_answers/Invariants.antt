-- How many of the slots so far answer.
use mathlib.Core.Path.{◌≡◌}
use lib.ListN.{length}
use Rattle.node_rules.specs.Hearing.{answers_at, chosen}
use Rattle.node.proofs.board.Board.count_answers.Given as goal

abbrev pub invariant-loop-i : goal.invariant-loop-i
invariant-loop-i l = l.n ≡ length (chosen l.i (answers_at l.self.node.automatic l.self.roles.now l.self.events.now l.heard))
