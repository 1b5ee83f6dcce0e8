use Prim.Native.Nat.{ℕ, ◌+◌}
use mathlib.Core.Path.{◌≡◌, sym, ap, ◌∙◌}
use mathlib.Core.Bool.{Bool, false, cond}
use mathlib.Core.List.{◌++◌}
use native.Mathlib.Omega.{arith}
use lib.ListN.{get_or, set, drop}
use Rattle.basics.specs.Lists.{each}
use borrow.Author.Tests.{eq-eqb, ne_eqb}
use Rattle.basics.proofs.Each.{each_none, each_old, each_more, each_all}
use Rattle.node_rules.specs.Boards.{advertised, has_at, with_marks}
use Rattle.node.specs.Boards.{slots_in}
use Rattle.node.proofs.board.Board.advertise.Invariants.{settled}
use Rattle.node.proofs.board.Board.advertise.Goals as goal
use Rattle.node.proofs.board.Board.advertise.Goals.{then-roles-i+then-events-i, else-roles-i, else-roles-i-via-then-roles-i+else-events-i, else-roles-i-via-else-roles-i}

pub loop-i-init : goal.loop-i-init
loop-i-init c =
    let b = c.args.self.now in
    each_none (settled b.roles.now b.events.now c.args.slot b.marks.now) b.marks.now

pub loop-i-preserved : goal.loop-i-preserved
loop-i-preserved c =
    let b = c.args.self.now in
    let l = c.loop-i in
    let slot = c.args.slot in
    let mark = settled b.roles.now b.events.now slot b.marks.now in
    let more : (v : ℕ) → v ≡ mark l.i → set l.mark-items l.i v ≡ each (l.i + 1) mark ++ drop (l.i + 1) b.marks.now = each_more 0 mark l.i b.marks.now l.mark-items l.invariant (omega arith) in
    let kept : has_at b.roles.now b.events.now (get_or b.roles.now slot 0) (get_or b.events.now slot 0) l.i ≡ false → set l.mark-items l.i (get_or l.mark-items l.i 0) ≡ each (l.i + 1) mark ++ drop (l.i + 1) b.marks.now
    = λ e. more (get_or l.mark-items l.i 0) (each_old 0 mark l.i b.marks.now l.mark-items l.invariant (omega arith) ∙ sym (ap (λ (t : Bool). cond t advertised (get_or b.marks.now l.i 0)) e)) in
    elim c.if-roles-i.branch [
      | then-roles-i+then-events-i w ↦ w.mark-items-is ∙ more 1 (rw (eq-eqb _ _ w.if-roles-i.true, eq-eqb _ _ w.if-events-i.true))
      | else-roles-i w ↦ w.mark-items-is ∙ elim w.else-roles-i.branch [
        | else-roles-i-via-then-roles-i+else-events-i v ↦ v.mark-items-is ∙ kept (rw (eq-eqb _ _ v.if-roles-i.true, ne_eqb _ _ v.if-events-i.false))
        | else-roles-i-via-else-roles-i v ↦ v.mark-items-is ∙ kept (rw (ne_eqb _ _ v.if-roles-i.false))
      ]
    ]

pub returns-clause-slots : goal.returns-clause-slots
returns-clause-slots c =
    let b = c.args.self.now in
    let l = c.loop-i in
    ap (with_marks (slots_in b)) (each_all (settled b.roles.now b.events.now c.args.slot b.marks.now) l.i b.marks.now l.mark-items l.invariant (omega arith))
