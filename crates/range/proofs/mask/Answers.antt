-- A shift makes each mask but that of all 64 bits.
use Prim.Native.Nat.{ℕ, ◌-◌, ◌^◌}
use mathlib.Core.Path.{◌≡◌, ap}
use native.Mathlib.Omega.{arith}
use lib.Pow.{pow_pos}
use Rattle.range.proofs.Masks.{one_shifted}
use Rattle.range.proofs.mask.Goals as goal

pub overflow_sub-result : goal.overflow_sub-result
overflow_sub-result c = rw (one_shifted c.args.k c.if-k-lt64.true) (pow_pos c.args.k)

pub returns-then-k-lt64 : goal.returns-then-k-lt64
returns-then-k-lt64 c = rw (one_shifted c.args.k c.if-k-lt64.true)

pub returns-else-k-lt64 : goal.returns-else-k-lt64
returns-else-k-lt64 c =
    let whole : 64 ≡ c.args.k = omega arith in
    ap (λ (k : ℕ). 2 ^ k - 1) whole
