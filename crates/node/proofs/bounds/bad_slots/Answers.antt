use mathlib.Core.Path.{sym, ◌∙◌}
use native.Mathlib.Omega.{arith}
use lib.ListN.{length}
use Rattle.basics.proofs.Below.{one_passes, next_fails}
use Rattle.node.proofs.bounds.bad_slots.Invariants.{bad_at}
use Rattle.node.proofs.bounds.bad_slots.Goals as goal

pub returns-then-bad_slot : goal.returns-then-bad_slot
returns-then-bad_slot c =
    let a = c.args in
    sym (one_passes (length a.roles.now) (bad_at a.state a.roles.now a.statuses.now a.marks.now) c.loop-i.i (omega arith) (sym c.bad_slot.ensures ∙ c.if-bad_slot.true))

pub loop-i-preserved : goal.loop-i-preserved
loop-i-preserved c =
    let a = c.args in
    next_fails (bad_at a.state a.roles.now a.statuses.now a.marks.now) c.loop-i.i c.loop-i.invariant (sym c.bad_slot.ensures ∙ c.if-bad_slot.false)
