use Prim.Native.Nat.{ℕ}
use mathlib.Core.Path.{◌≡◌, sym, ap, ◌∙◌}
use mathlib.Core.Bool.{◌&&◌}
use native.Mathlib.Omega.{arith}
use lib.Dec.{leb}
use borrow.Author.Tests.{eq-eqb, le-leb}
use Rattle.basics.proofs.Below.{one_passes}
use Rattle.basics.specs.Sets.{any_below, in_set}
use Rattle.gateway.proofs.bounds.stray_mark.Goals as goal

pub returns-then-marks-p-eq1 : goal.returns-then-marks-p-eq1
returns-then-marks-p-eq1 c =
    let a = c.args in
    sym (one_passes 8 (λ q. leb a.ports q && in_set a.marks q) c.loop-p.p (omega arith) (rw (le-leb a.ports c.loop-p.p c.if-ports-p.true) (eq-eqb _ 1 c.if-marks-p-eq1.true)))

pub returns : goal.returns
returns c =
    let a = c.args in
    let all : c.loop-p.p ≡ 8 = omega arith in
    sym (sym (ap (λ (k : ℕ). any_below k (λ q. leb a.ports q && in_set a.marks q)) all) ∙ c.loop-p.invariant)
