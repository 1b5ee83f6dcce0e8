use Prim.Native.Nat.{ℕ, suc, ◌-◌}
use mathlib.Core.Path.{◌≡◌, ap, ◌∙◌}
use mathlib.Core.List.{◌++◌}
use native.Mathlib.Omega.{arith}
use lib.ListN.{drop}
use Rattle.numbers.specs.Numbers.{bytes_of}
use Rattle.numbers.proofs.Laws.{bytes_on}
use Rattle.numbers.proofs.write.Goals as goal

pub loop-i-preserved : goal.loop-i-preserved
loop-i-preserved c =
    let l = c.loop-i in
    let next : suc (l.i - 1) ≡ l.i = omega arith in
    bytes_on (l.i - 1) l.rest l.out (omega arith) ∙ ap (λ (k : ℕ). bytes_of k l.rest ++ drop k l.out) next ∙ l.invariant

pub returns : goal.returns
unfolding bytes_of
returns c =
    let l = c.loop-i in
    let none : 0 ≡ l.i = omega arith in
    ap (λ (k : ℕ). bytes_of k l.rest ++ drop k l.out) none ∙ l.invariant
