-- What masks and shifts of 64 bits do, in plain arithmetic, once over k.
use Prim.Native.Nat.{ℕ, ◌+◌, ◌-◌, ◌*◌, ◌/◌, ◌%◌, ◌^◌, ◌≤◌, ◌<◌}
use mathlib.Core.Path.{◌≡◌, ap, ◌∙◌}
use native.Mathlib.Nat.{one-mul, div-add-mod'}
use native.Mathlib.Omega.{arith}
use lib.Dec.{lit<}
use lib.Bits.{bit_and, bit_or, and_high, or_shifted}
use lib.Pow.{pow_pos, shl_exact, shr_mod, ones_lt}

-- 1 << k.
pub one_shifted : (k : ℕ) → k < 64 → (1 * 2 ^ k) % 2 ^ 64 ≡ 2 ^ k
one_shifted k h = shl_exact 1 k 64 (lit< tt) (omega arith) ∙ one-mul (2 ^ k)

-- The bits above the low k of a number of w bits, picked by the complement of their mask.
pub above_mask : (w e k : ℕ) → e < 2 ^ w → k ≤ w → bit_and e (2 ^ w - 1 - (2 ^ k - 1)) ≡ e / 2 ^ k * 2 ^ k
above_mask w e k h g =
    let width : w - k + k ≡ w = omega arith in
    let wide : e < 2 ^ (w - k + k) = rw width h in
    let high : 2 ^ w - 1 - (2 ^ k - 1) ≡ 2 ^ (w - k + k) - 2 ^ k = rw width (omega (arith, pow_pos k)) in
    ap (bit_and e) high ∙ and_high e (w - k) k ∙ ap (λ (x : ℕ). x * 2 ^ k) (shr_mod (w - k) k wide)

-- Ones put below a multiple of 2^k.
pub ones_below : (s k : ℕ) → s % 2 ^ k ≡ 0 → bit_or s (2 ^ k - 1) ≡ s + (2 ^ k - 1)
ones_below s k e =
    let whole : s / 2 ^ k * 2 ^ k ≡ s = omega (arith, div-add-mod' s (2 ^ k)) in
    rw whole at (or_shifted (s / 2 ^ k) k (2 ^ k - 1) (ones_lt k))
