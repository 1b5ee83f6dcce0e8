use mathlib.Core.Path.{sym, ap, ◌∙◌}
use mathlib.Core.Bool.{not}
use native.Mathlib.Omega.{arith}
use Rattle.basics.proofs.Below.{one_passes, next_fails}
use Rattle.node.proofs.board.Board.is_lowest.Invariants.{alike}
use Rattle.node.proofs.board.Board.is_lowest.Goals as goal

pub returns-then-has : goal.returns-then-has
returns-then-has c =
    let b = c.args.self.now in
    sym (ap not (one_passes c.args.i (alike b.roles.now b.events.now c.args.i) c.loop-j.j (omega arith) (sym c.has.ensures ∙ c.if-has.true)))

pub loop-j-preserved : goal.loop-j-preserved
loop-j-preserved c =
    let b = c.args.self.now in
    next_fails (alike b.roles.now b.events.now c.args.i) c.loop-j.j c.loop-j.invariant (sym c.has.ensures ∙ c.if-has.false)
