use Rattle.std.proofs.Common.{refl, sym, ◌∙◌, arith}
use Rattle.std.proofs.Math.ListN.{length-set}
use Rattle.can_aliases.proofs.Marks.{good_none, good_more, good_before, alias_twice, node_twice, all_clear}
use Rattle.can_aliases.proofs.Repeats.{stands_left}
use Rattle.can_aliases.proofs.AliasList.any_bad.Goals as goal
use Rattle.can_aliases.proofs.AliasList.any_bad.Goals.{else-had-ge2-via-then-had-ge2+else-contains, else-had-ge2-via-else-had-ge2}

pub loop-i-init : goal.loop-i-init
loop-i-init c =
    let l = c.args.self.now in
    (refl, good_none l.aliases.now l.nodes.now _ _ refl (λ k. all_clear 0x1000 k) (sym c.requires) refl)

pub returns-then-old-eq1 : goal.returns-then-old-eq1
returns-then-old-eq1 c =
    let l = c.args.self.now in
    alias_twice l.aliases.now l.nodes.now c.loop-i.i (omega arith) (omega arith) (omega arith) c.loop-i.met c.loop-i.invariant.1 c.if-alias-gt4095.false c.if-old-eq1.true

pub returns-then-contains : goal.returns-then-contains
returns-then-contains c =
    let l = c.args.self.now in
    node_twice l.aliases.now l.nodes.now c.loop-i.i (omega arith) (omega arith) (omega arith) (sym (stands_left l.nodes.now c.loop-i.i _ _ (omega arith)) ∙ sym c.contains.ensures.value ∙ c.if-contains.true)

pub loop-i-preserved : goal.loop-i-preserved
loop-i-preserved c =
    let l = c.args.self.now in (
      simp length-set c.loop-i.invariant.0,
      good_before l.aliases.now l.nodes.now c.loop-i.i (omega arith) (omega arith) (omega arith) _
          (good_more c.loop-i.invariant.1 _ _ c.if-alias-gt4095.false (sym c.bad_node.ensures ∙ c.if-bad_node.false) c.if-old-eq1.false
          (elim c.else-had-ge2.branch [
            | else-had-ge2-via-then-had-ge2+else-contains w ↦ λ _. sym (stands_left l.nodes.now c.loop-i.i _ _ (omega arith)) ∙ sym w.contains.ensures.value ∙ w.if-contains.false
            | else-had-ge2-via-else-had-ge2 w ↦ λ h. absurd (omega arith)
          ])),
    )
