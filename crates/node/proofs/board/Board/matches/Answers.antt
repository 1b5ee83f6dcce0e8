-- The set of the slots below their count, in 64 bits.
use mathlib.Core.Path.{sym, ap, ◌∙◌}
use lib.ListN.{length}
use Rattle.basics.specs.Sets.{set_of}
use Rattle.basics.proofs.Sets.{nobody}
use Rattle.message.specs.declared.Saying.{Saying}
use Rattle.message.specs.Saying.{consumer}
use Rattle.node_rules.specs.Boards.{has_at}
use Rattle.node_rules.specs.Hearing.{matches_at}
use Rattle.node.proofs.Matching.{set_within}
use native.Mathlib.Omega.{arith}
use Rattle.node.proofs.board.Board.matches.Goals as goal

pub returns-in-Report : goal.returns-in-Report
returns-in-Report c =
    let b = c.args.self.now in
    let test = has_at b.roles.now b.events.now consumer c.in-Report.e in
    c.having.ensures ∙ set_within (length b.roles.now) 64 test b.checked.few ∙ ap (λ (s : Saying). set_of 64 (matches_at b.roles.now b.events.now s)) (sym c.in-Report.is)

pub returns-in_default : goal.returns-in_default
returns-in_default c = grind (arith, nobody 64)
