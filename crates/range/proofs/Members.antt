-- R2: what a range number holds, said in four ways: by prefix, by the standard's mask, by bits, and by its block's first and last event.
use Prim.Native.Nat.{ℕ, zero, suc, ◌+◌, ◌-◌, ◌*◌, ◌/◌, ◌%◌, ◌^◌, ◌≤◌, ◌<◌}
use mathlib.Core.Path.{◌≡◌, sym, ap, ◌∙◌}
use mathlib.Core.Logic.{◌↔◌}
use mathlib.Core.Bool.{true}
use native.Mathlib.Nat.{div-one, pow-suc, eq_of_mul-eq-mul_right}
use native.Mathlib.Omega.{arith}
use borrow.Author.Tests.{eqb-true, eq-eqb}
use lib.Dec.{eqb}
use lib.Bits.{bit_and}
use lib.Pow.{pow_pos, shr-shr, shr_lt, shl-shr}
use Rattle.numbers.specs.Bits.{bit}
use Rattle.range.specs.Range.{run, in_range, in_block, block_of}
use Rattle.range.proofs.Runs.{next_bit, run_of}
use Rattle.range.proofs.Masks.{above_mask}
use Rattle.basics.proofs.Bools.{same_truth}
use Rattle.range.proofs.Laws.{block_of_block, in_block_prefix}

-- The block of a number has the events of its range.
pub in_range_block : (r e : ℕ) → in_range r e ≡ in_block (block_of r) e
unfolding in_range block_of
in_range_block r e =
    let p = in_block_prefix (block_of r) e (block_of_block r) in
    sym (p ∙ ap (λ (q : ℕ). eqb (e / 2 ^ run r) q) (shl-shr (r / 2 ^ run r) (run r)))

-- The standard's own formula: (E AND NOT mask) EQUALS (R AND NOT mask).
pub in_range_mask : (r e : ℕ) → r < 2 ^ 64 → e < 2 ^ 64
    → in_range r e ≡ eqb (bit_and e (2 ^ 64 - 1 - (2 ^ run r - 1))) (bit_and r (2 ^ 64 - 1 - (2 ^ run r - 1)))
unfolding in_range
in_range_mask r e hr he =
    let k = (run_of r).fits in
    same_truth _ _
    (λ t. eq-eqb _ _ (above_mask 64 e (run r) he k ∙ ap (λ (x : ℕ). x * 2 ^ run r) (eqb-true _ _ t) ∙ sym (above_mask 64 r (run r) hr k)))
    (λ t.
    eq-eqb _ _
    (eq_of_mul-eq-mul_right (2 ^ run r) (pow_pos (run r)) (e / 2 ^ run r) (r / 2 ^ run r)
    (sym (above_mask 64 e (run r) he k) ∙ eqb-true _ _ t ∙ above_mask 64 r (run r) hr k)))

-- Numbers of w bits whose bits agree are equal.
same_bits : (w x y : ℕ) → x < 2 ^ w → y < 2 ^ w → ((i : ℕ) → i < w → bit i x ≡ bit i y) → x ≡ y
same_bits zero x y hx hy h = omega arith
same_bits (suc w) x y hx hy h =
    let p = pow-suc 2 w in
    let lowest : x % 2 ≡ y % 2 = ap (λ (n : ℕ). n % 2) (sym (div-one x)) ∙ h zero (omega arith) ∙ ap (λ (n : ℕ). n % 2) (div-one y) in
    let rest : x / 2 ≡ y / 2 = same_bits w (x / 2) (y / 2) (omega arith) (omega arith) (λ i g. sym (next_bit x i) ∙ h (suc i) (omega arith) ∙ next_bit y i) in
    omega arith

bit_above : (n k i : ℕ) → bit (k + i) n ≡ bit i (n / 2 ^ k)
bit_above n k i = ap (λ (x : ℕ). x % 2) (sym (shr-shr n k i))

-- E lies in R exactly when the two agree on all bits above the run.
pub in_range_bits : (r e : ℕ) → r < 2 ^ 64 → e < 2 ^ 64
    → (in_range r e ≡ true) ↔ ((i : ℕ) → run r ≤ i → i < 64 → bit i e ≡ bit i r)
unfolding in_range
in_range_bits r e hr he = (there, back)
  where
    k : ℕ
    k = run r

    small : k ≤ 64
    small = (run_of r).fits

    there : eqb (e / 2 ^ k) (r / 2 ^ k) ≡ true → (i : ℕ) → k ≤ i → i < 64 → bit i e ≡ bit i r
    there t i l g =
        let place : k + (i - k) ≡ i = omega arith in
        let q : e / 2 ^ k ≡ r / 2 ^ k = eqb-true (e / 2 ^ k) (r / 2 ^ k) t in
        rw (← place) (bit_above e k (i - k) ∙ ap (bit (i - k)) q ∙ sym (bit_above r k (i - k)))

    part : (n : ℕ) → n < 2 ^ 64 → n / 2 ^ k < 2 ^ (64 - k)
    part n h =
        let width : 64 - k + k ≡ 64 = omega (arith, small) in
        shr_lt (64 - k) k (rw width h)

    back : ((i : ℕ) → k ≤ i → i < 64 → bit i e ≡ bit i r) → eqb (e / 2 ^ k) (r / 2 ^ k) ≡ true
    back h =
        eq-eqb (e / 2 ^ k) (r / 2 ^ k)
        (same_bits (64 - k) (e / 2 ^ k) (r / 2 ^ k) (part e he) (part r hr)
        (λ i g. sym (bit_above e k i) ∙ h (k + i) (omega arith) (omega arith) ∙ bit_above r k i))
