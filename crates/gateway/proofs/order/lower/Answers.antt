use mathlib.Core.Path.{◌≡◌}
use native.Mathlib.Omega.{arith}
use lib.ListN.{length-set}
use Rattle.gateway.proofs.Lowering.{none_lowered, not_past, not_below_zero, taken_out, lowered_on}
use Rattle.gateway.proofs.order.lower.Goals as goal

pub loop-i-init : goal.loop-i-init
loop-i-init c = (c.requires.order_len, none_lowered c.args.falls.now c.args.order.now)

pub loop-i-preserved-then-fall-ge256 : goal.loop-i-preserved-then-fall-ge256
loop-i-preserved-then-fall-ge256 c = (c.loop-i.invariant.0, taken_out c.loop-i.invariant.1 c.if-fall-ge256.true)

pub overflow_sub-order : goal.overflow_sub-order
overflow_sub-order c = omega (arith, not_below_zero c.loop-i.invariant.1 c.requires.lowerable (omega arith) (omega arith))

pub bounds-order-j : goal.bounds-order-j
bounds-order-j c = omega (arith, not_past c.loop-i.invariant.1)

pub overflow_add-j : goal.overflow_add-j
overflow_add-j c = omega (arith, not_past c.loop-i.invariant.1)

pub loop-i-preserved : goal.loop-i-preserved
loop-i-preserved c = (simp length-set c.loop-i.invariant.0, lowered_on c.loop-i.invariant.1 (omega arith) (omega (arith, not_past c.loop-i.invariant.1)))

pub returns : goal.returns
returns c =
    let all : c.loop-i.i ≡ c.args.count = omega arith in
    rw all at c.loop-i.invariant.1.done
