use mathlib.Core.Path.{sym, ap, ◌∙◌}
use native.Mathlib.Omega.{arith}
use Rattle.basics.proofs.Each.{each_none, each_more, each_all}
use Rattle.node_rules.specs.Boards.{with_marks}
use Rattle.node.specs.Boards.{slots_in}
use Rattle.node.proofs.board.Board.restart.Invariants.{mark_of, settled}
use Rattle.node.proofs.board.Board.restart.Goals as goal
use Rattle.node.proofs.board.Board.restart.Goals.{then-in_block, else-in_block}

pub loop-i-init : goal.loop-i-init
loop-i-init c =
    let b = c.args.self.now in
    each_none (settled b.node.automatic b.events.now) b.marks.now

pub loop-i-preserved : goal.loop-i-preserved
loop-i-preserved c =
    let b = c.args.self.now in
    let l = c.loop-i in
    each_more 0 (settled b.node.automatic b.events.now) l.i b.marks.now l.mark-items l.invariant (omega arith) c.if-in_block.mark (elim c.if-in_block.branch [
      | then-in_block w ↦ w.mark-is ∙ sym (ap mark_of (sym c.in_block.ensures ∙ w.if-in_block.true))
      | else-in_block w ↦ w.mark-is ∙ sym (ap mark_of (sym c.in_block.ensures ∙ w.if-in_block.false))
    ])

pub returns-clause-slots : goal.returns-clause-slots
returns-clause-slots c =
    let b = c.args.self.now in
    let l = c.loop-i in
    ap (with_marks (slots_in b)) (each_all (settled b.node.automatic b.events.now) l.i b.marks.now l.mark-items l.invariant (omega arith))
