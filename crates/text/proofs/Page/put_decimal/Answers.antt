use mathlib.Core.Path.{refl}
use mathlib.Core.Logic.{inr}
use Prim.Native.Nat.{◌-◌}
use native.Mathlib.Omega.{arith}
use native.Mathlib.Nat.{one-le-pow}
use lib.Dec.{lit<}
use Rattle.text.proofs.Laws.{remains_start, place_below, digits_skip, digits_next, digits_last, digit_only}
use Rattle.text.proofs.Page.put_decimal.Goals as goal

pub returns-then-n-lt10 : goal.returns-then-n-lt10
returns-then-n-lt10 c = digit_only c.args.self.now c.args.n c.if-n-lt10.true c.stay_within.ensures c.put_byte.ensures

pub loop-w-init : goal.loop-w-init
loop-w-init c = (remains_start c.stay_within.ensures, refl, omega arith)

pub nonzero_div-n : goal.nonzero_div-n
nonzero_div-n c = omega (arith, c.loop-w.invariant.1, one-le-pow (c.loop-w.w - 1) 10 (lit< tt))

pub loop-w-preserved-then-place-n : goal.loop-w-preserved-then-place-n
loop-w-preserved-then-place-n c =
    let loop = c.loop-w in
    let more = c.loop-w-test.true in
    (digits_next c.args.n loop.w (omega (arith, more)) loop.invariant.1 loop.invariant.0 (inr (λ e. omega (arith, e, more), c.if-place-n.true)) c.put_byte-then-place-n.ensures, place_below (loop.w - 1) loop.invariant.1 (omega (arith, more)), omega (arith, more))

pub loop-w-preserved : goal.loop-w-preserved
loop-w-preserved c =
    let loop = c.loop-w in
    let more = c.loop-w-test.true in
    (digits_skip c.args.n loop.w (omega (arith, more)) loop.invariant.1 loop.invariant.0 (omega (arith, more), c.if-place-n.false), place_below (loop.w - 1) loop.invariant.1 (omega (arith, more)), omega (arith, more))

pub returns : goal.returns
returns c = digits_last c.args.n c.loop-w.w (omega (arith, c.loop-w.invariant.2)) c.loop-w.invariant.0 c.put_byte-2.ensures
