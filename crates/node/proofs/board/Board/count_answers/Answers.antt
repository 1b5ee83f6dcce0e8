use Prim.Native.Nat.{ℕ, ◌+◌}
use mathlib.Core.Path.{sym, ap, ◌∙◌}
use mathlib.Core.List.{[], ◌∷◌}
use native.Mathlib.Omega.{arith}
use lib.ListN.{length, length-append}
use Rattle.node_rules.specs.Hearing.{chosen}
use Rattle.node_rules.proofs.Once.{chosen_few}
use Rattle.node.specs.Boards.{board_in}
use Rattle.node.proofs.Choosing.{chosen_passed, chosen_next}
use Rattle.node.proofs.Replying.{answers_by}
use Rattle.node.proofs.board.Board.count_answers.Goals as goal
use Rattle.node.proofs.board.Board.count_answers.Goals.{then-answers, else-answers}

pub overflow_add-n : goal.overflow_add-n
overflow_add-n c = omega (arith, c.loop-i.invariant, chosen_few c.loop-i.i (answers_by (board_in c.args.self.now) c.args.heard))

pub loop-i-preserved : goal.loop-i-preserved
loop-i-preserved c =
    let test = answers_by (board_in c.args.self.now) c.args.heard in
    let l = c.loop-i in
    elim c.if-answers.branch [
      | then-answers w ↦ w.n-is ∙ ap (λ (k : ℕ). k + 1) l.invariant ∙ sym (ap length (chosen_next test l.i (sym c.answers.ensures ∙ w.if-answers.true)) ∙ length-append (chosen l.i test) (l.i ∷ []))
      | else-answers w ↦ w.n-is ∙ l.invariant ∙ sym (ap length (chosen_passed test l.i (sym c.answers.ensures ∙ w.if-answers.false)))
    ]
