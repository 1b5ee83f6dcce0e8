-- The run of a number: the two counts of trailing zeros that give it, what it says of the bits, and that nothing else says the same.
use Prim.Native.Nat.{ℕ, zero, suc, ◌+◌, ◌-◌, ◌*◌, ◌/◌, ◌%◌, ◌^◌, ◌≤◌, ◌<◌, zero-le, suc-le-suc}
use mathlib.Core.Path.{◌≡◌, refl, sym, ap, ◌∙◌}
use mathlib.Core.Bool.{Bool, true, false, cond, ◌&&◌, and-false}
use native.Mathlib.Nat.{pow-suc, mod-lt, mod-one, div-one, mul-zero, not-suc-le-zero, le_of_suc-le-suc}
use native.Mathlib.Omega.{arith}
use native.Mathlib.Numerals.{add-one, one-add}
use borrow.Author.Tests.{eqb-true, eqb-false, eq-eqb, ne_eqb}
use lib.Dec.{leb, eqb, leb-zero, leb-suc-zero, leb-suc-suc, eqb-suc-zero, lit<}
use mir.Syntax.{w8}
use mir.Val.{Fits}
use lib.Count.{count_trailing_zeros, under, trailing_le}
use lib.Pow.{pow_pos, mod-pow-add, shr-shr}
use Rattle.numbers.specs.Bits.{bit}
use Rattle.range.specs.Range.{bits_equal, run}

-- A bit is 0 or 1.
pub bit_lt : (n : ℕ) → n % 2 < 2
bit_lt n = mod-lt n (lit< tt)

under_is : (d t : ℕ) → under d t ≡ cond (eqb d 0) (suc t) zero
under_is zero t = refl
under_is (suc d) t = rw eqb-suc-zero

-- Counting the zeros of n counts its lowest bits that are 0.
pub zeros_counted : (w n : ℕ) → count_trailing_zeros w n ≡ bits_equal 0 w n
unfolding count_trailing_zeros bits_equal
zeros_counted zero n = refl
zeros_counted (suc w) n =
    under_is (n % 2) (count_trailing_zeros w (n / 2)) ∙ ap (λ (t : ℕ). cond (eqb (n % 2) 0) (suc t) zero) (zeros_counted w (n / 2))

flipped : (d : ℕ) → d < 2 → eqb (1 - d) 0 ≡ eqb d 1
flipped zero h = refl
flipped (suc zero) h = refl
flipped (suc (suc d)) h = absurd (not-suc-le-zero (le_of_suc-le-suc (le_of_suc-le-suc h)))

complement_odd : (w n : ℕ) → n < 2 ^ suc w → (2 ^ suc w - 1 - n) % 2 ≡ 1 - n % 2
complement_odd w n h = omega (arith, pow-suc 2 w)

complement_half : (w n : ℕ) → n < 2 ^ suc w → (2 ^ suc w - 1 - n) / 2 ≡ 2 ^ w - 1 - n / 2
complement_half w n h = omega (arith, pow-suc 2 w)

-- Counting the zeros of n's complement counts its lowest bits that are 1.
pub ones_counted : (w n : ℕ) → n < 2 ^ w → count_trailing_zeros w (2 ^ w - 1 - n) ≡ bits_equal 1 w n
unfolding count_trailing_zeros bits_equal
ones_counted zero n h = refl
ones_counted (suc w) n h =
    let half : n / 2 < 2 ^ w = omega (arith, pow-suc 2 w) in
    rw (complement_odd w n h, complement_half w n h, ones_counted w (n / 2) half, under_is, flipped (n % 2) (bit_lt n))

-- What makes k the run of b in the w lowest bits of n: k bits are all b, and the next one, if there is one, is not.
pub record Run (b w n k : ℕ) : Type 0 where
  pub fits : k ≤ w
  pub low : n % 2 ^ k ≡ b * (2 ^ k - 1)
  pub next : k < w → bit k n ≡ b → ⊥

-- k bits that are all b, one more below them.
doubles : (b p : ℕ) → b < 2 → zero < p → b * (p - 1) * 2 + b ≡ b * (p * 2 - 1)
doubles zero p h q = omega arith
doubles (suc zero) p h q = omega arith
doubles (suc (suc b)) p h q = absurd (not-suc-le-zero (le_of_suc-le-suc (le_of_suc-le-suc h)))

halves : (b x d p : ℕ) → b < 2 → d < 2 → zero < p → x * 2 + d ≡ b * (p * 2 - 1) → (d ≡ b) × (x ≡ b * (p - 1))
halves zero x d p h g q e = omega arith
halves (suc zero) x d p h g q e = omega arith
halves (suc (suc b)) x d p h g q e = absurd (not-suc-le-zero (le_of_suc-le-suc (le_of_suc-le-suc h)))

-- The lowest bit and the bits above it, of a number's k + 1 lowest.
low_split : (n k : ℕ) → n % 2 ^ suc k ≡ n / 2 % 2 ^ k * 2 + n % 2
low_split n k = rw (← add-one k) (mod-pow-add n k 1)

pub next_bit : (n k : ℕ) → bit (suc k) n ≡ bit k (n / 2)
next_bit n k = ap (λ (x : ℕ). x % 2) (sym (shr-shr n 1 k ∙ ap (λ (i : ℕ). n / 2 ^ i) (one-add k)))

run_here : (b w n k : ℕ) → b < 2 → n % 2 ≡ b → Run b w (n / 2) k → Run b (suc w) n (suc k)
run_here b w n k h e r = record {
  fits = suc-le-suc r.fits;
  low = low_split n k ∙ ap (λ (x : ℕ). x * 2 + n % 2) r.low ∙ ap (λ (d : ℕ). b * (2 ^ k - 1) * 2 + d) e ∙ doubles b (2 ^ k) h (pow_pos k)
      ∙ ap (λ (p : ℕ). b * (p - 1)) (sym (pow-suc 2 k));
  next = λ g q. r.next (le_of_suc-le-suc g) (sym (next_bit n k) ∙ q);
}

run_none : (b w n : ℕ) → (n % 2 ≡ b → ⊥) → Run b w n zero
run_none b w n h = record { fits = zero-le; low = mod-one n ∙ sym (mul-zero b); next = λ _ q. h (ap (λ (x : ℕ). x % 2) (sym (div-one n)) ∙ q) }

-- The count is the run.
pub run_is : (b w n : ℕ) → b < 2 → Run b w n (bits_equal b w n)
unfolding bits_equal
run_is b zero n h = record { fits = zero-le; low = mod-one n ∙ sym (mul-zero b); next = λ g. absurd (not-suc-le-zero g) }
run_is b (suc w) n h = go (run_is b w (n / 2) h) (eqb (n % 2) b) refl
  where
    go : Run b w (n / 2) (bits_equal b w (n / 2)) → (t : Bool) → eqb (n % 2) b ≡ t → Run b (suc w) n (cond t (suc (bits_equal b w (n / 2))) zero)
    go r true e = run_here b w n (bits_equal b w (n / 2)) h (eqb-true (n % 2) b e) r
    go r false e = run_none b (suc w) n (eqb-false (n % 2) b e)

-- Below a run that is not empty stands one that is shorter by the lowest bit.
run_there : (b w n k : ℕ) → b < 2 → Run b (suc w) n (suc k) → (n % 2 ≡ b) × Run b w (n / 2) k
run_there b w n k h r =
    let parts = halves b (n / 2 % 2 ^ k) (n % 2) (2 ^ k) h (bit_lt n) (pow_pos k) (sym (low_split n k) ∙ r.low ∙ ap (λ (p : ℕ). b * (p - 1)) (pow-suc 2 k)) in (
      parts.0,
      record { fits = le_of_suc-le-suc r.fits; low = parts.1; next = λ g q. r.next (suc-le-suc g) (next_bit n k ∙ q) },
    )

pub run_lowest : (b w n k : ℕ) → b < 2 → zero < k → Run b w n k → n % 2 ≡ b
run_lowest b w n zero h p r = absurd (not-suc-le-zero p)
run_lowest b zero n (suc k) h p r = absurd (not-suc-le-zero r.fits)
run_lowest b (suc w) n (suc k) h p r = (run_there b w n k h r).0

-- Nothing but the run is one.
pub run_only : (b w n k : ℕ) → b < 2 → Run b w n k → bits_equal b w n ≡ k
unfolding bits_equal
run_only b zero n k h r = omega (arith, r.fits)
run_only b (suc w) n zero h r =
    let other : n % 2 ≡ b → ⊥ = λ e. r.next (suc-le-suc zero-le) (ap (λ (x : ℕ). x % 2) (div-one n) ∙ e) in
    rw (ne_eqb (n % 2) b other)
run_only b (suc w) n (suc k) h r =
    let rest = run_there b w n k h r in
    rw (eq-eqb (n % 2) b rest.0) (ap suc (run_only b w (n / 2) k h rest.1))

even_zero : (x : ℕ) → eqb (x * 2 + 0) 0 ≡ eqb x 0
even_zero zero = refl
even_zero (suc x) = ne_eqb (suc x * 2 + 0) 0 (λ e. omega arith) ∙ sym (eqb-suc-zero x)

-- At least k zeros are counted exactly where k is at most the width and 2^k divides n.
pub zeros_divide : (w n k : ℕ) → leb k (count_trailing_zeros w n) ≡ (leb k w && eqb (n % 2 ^ k) 0)
unfolding count_trailing_zeros
zeros_divide w n zero = rw (leb-zero (count_trailing_zeros w n), leb-zero w, mod-one)
zeros_divide zero n (suc k) = rw leb-suc-zero
zeros_divide (suc w) n (suc k) = go (zeros_divide w (n / 2) k) (n % 2) refl
  where
    go : leb k (count_trailing_zeros w (n / 2)) ≡ (leb k w && eqb (n / 2 % 2 ^ k) 0) → (d : ℕ) → n % 2 ≡ d
        → leb (suc k) (under d (count_trailing_zeros w (n / 2))) ≡ (leb (suc k) (suc w) && eqb (n % 2 ^ suc k) 0)
    go rest zero e = rw (leb-suc-suc k (count_trailing_zeros w (n / 2)), leb-suc-suc k w, rest, low_split n k, e, even_zero)
    go rest (suc d) e =
        let odd : n % 2 ^ suc k ≡ 0 → ⊥ = λ z. omega (arith, low_split n k) in
        rw (leb-suc-zero, ne_eqb (n % 2 ^ suc k) 0 odd, and-false)

-- The count of 64 bits' zeros is a byte.
pub count_fits : (n : ℕ) → Fits w8 (count_trailing_zeros 64 n)
count_fits n = omega (arith, trailing_le 64 n)

-- What the code counts at an even and at an odd number.
pub run_even : (r : ℕ) → r % 2 ≡ 0 → count_trailing_zeros 64 r ≡ run r
unfolding run
run_even r e = zeros_counted 64 r ∙ ap (λ (b : ℕ). bits_equal b 64 r) (sym e)

pub run_odd : (r : ℕ) → r < 2 ^ 64 → (r % 2 ≡ 0 → ⊥) → count_trailing_zeros 64 (2 ^ 64 - 1 - r) ≡ run r
unfolding run
run_odd r h e =
    let one : 1 ≡ r % 2 = omega (arith, bit_lt r) in
    ones_counted 64 r h ∙ ap (λ (b : ℕ). bits_equal b 64 r) one

-- The run of a range number, which is never 0.
pub run_of : (r : ℕ) → Run (r % 2) 64 r (run r)
unfolding run
run_of r = run_is (r % 2) 64 r (bit_lt r)

pub run_pos : (r : ℕ) → zero < run r
run_pos r = go (run r) (run_of r)
  where
    go : (k : ℕ) → Run (r % 2) 64 r k → zero < k
    go zero q = absurd (q.next (lit< tt) (ap (λ (x : ℕ). x % 2) (div-one r)))
    go (suc k) q = suc-le-suc zero-le
