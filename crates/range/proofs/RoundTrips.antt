-- R3: a block is written as a number and read back, and a number is read as a block and written back.
use Prim.Native.Nat.{ℕ, zero, suc, ◌+◌, ◌-◌, ◌*◌, ◌/◌, ◌%◌, ◌^◌, ◌≤◌, ◌<◌}
use mathlib.Core.Path.{◌≡◌, refl, sym, ap, ◌∙◌}
use mathlib.Core.Logic.{◌⊎◌, inl, inr}
use mathlib.Core.Bool.{Bool, true, false}
use native.Mathlib.Nat.{add-zero, div-eq_of_lt, one-mul, zero-mul, div-add-mod'}
use native.Mathlib.Omega.{arith}
use borrow.Author.Tests.{eqb-true, eqb-false, ne_eqb}
use lib.Dec.{eqb, lit<}
use lib.Pow.{pow_pos, shl-shr, high, low}
use Rattle.range.specs.declared.Block.{Block}
use Rattle.numbers.specs.Bits.{bit}
use Rattle.range.specs.Range.{bits_equal, run, is_block, block_of, has_number, number_of}
use Rattle.range.proofs.Runs.{Run, bit_lt, run_of, run_lowest, run_only, run_pos}
use Rattle.range.proofs.Laws.{number_parts, number_ones, number_zeros, block_parts, block_start, block_of_block}

-- Every number's block has a number.
pub block_of_numbered : (r : ℕ) → has_number (block_of r) ≡ true
unfolding has_number block_of
block_of_numbered r =
    let some : run r ≡ 0 → ⊥ = λ e. omega (arith, run_pos r, e) in
    rw (ne_eqb (run r) 0 some) (block_of_block r)

-- 0 and all ones are both every event.
pub every_event : (block_of 0 ≡ record { start = 0; k = 64 }) × (block_of (2 ^ 64 - 1) ≡ record { start = 0; k = 64 })
unfolding block_of run bits_equal
every_event = (refl, refl)

low_lt : (d p : ℕ) → d < 2 → zero < p → d * (p - 1) < p
low_lt zero p h q = omega arith
low_lt (suc zero) p h q = omega arith
low_lt (suc (suc d)) p h q = omega arith

-- A block whose low k bits are written as d, where bit k of its start is not d, is read back.
module _ (b : Block) (d : ℕ) (v : is_block b ≡ true) (some : zero < b.k) (h : d < 2) (differs : b.k < 64 → bit b.k b.start ≡ d → ⊥) where
  abbrev filled : ℕ
  filled = b.start + d * (2 ^ b.k - 1)

  filled_start : b.start / 2 ^ b.k * 2 ^ b.k + d * (2 ^ b.k - 1) ≡ filled
  filled_start = ap (λ (s : ℕ). s + d * (2 ^ b.k - 1)) (block_start b v)

  filled_high : filled / 2 ^ b.k ≡ b.start / 2 ^ b.k
  filled_high = rw filled_start at (high (b.start / 2 ^ b.k) b.k (low_lt d (2 ^ b.k) h (pow_pos b.k)))

  filled_run : Run d 64 filled b.k
  filled_run = record {
    fits = (block_parts b v).0;
    low = rw filled_start at (low (b.start / 2 ^ b.k) b.k (low_lt d (2 ^ b.k) h (pow_pos b.k)));
    next = λ g e. differs g (ap (λ (x : ℕ). x % 2) (sym filled_high) ∙ e);
  }

  filled_back : block_of filled ≡ b
  unfolding block_of run
  filled_back =
      let runs : run filled ≡ b.k = ap (λ (x : ℕ). bits_equal x 64 filled) (run_lowest d 64 filled b.k h some filled_run) ∙ run_only d 64 filled b.k h filled_run in
      let starts = ap (λ (j : ℕ). filled / 2 ^ j * 2 ^ j) runs ∙ ap (λ (x : ℕ). x * 2 ^ b.k) filled_high ∙ block_start b v in
      λ i. record { start = starts i; k = runs i }

-- A block with a number is the block of that number.
pub number_back : (b : Block) → has_number b ≡ true → block_of (number_of b) ≡ b
number_back b v = go (eqb (bit b.k b.start) 0) refl
  where
    some : zero < b.k
    some = (number_parts b v).0

    whole : is_block b ≡ true
    whole = (number_parts b v).1

    ones : ℕ
    ones = 2 ^ b.k - 1

    go : (t : Bool) → eqb (bit b.k b.start) 0 ≡ t → block_of (number_of b) ≡ b
    go true e =
        let clear = eqb-true (bit b.k b.start) 0 e in
        ap block_of (number_ones b clear ∙ ap (λ (x : ℕ). b.start + x) (sym (one-mul ones)))
        ∙ filled_back b 1 whole some (lit< tt) (λ _ s. let z : ◌≡◌ {A = ℕ} 0 1 = sym clear ∙ s in omega arith)
    go false e =
        let set = eqb-false (bit b.k b.start) 0 e in
        ap block_of (number_zeros b set ∙ sym (ap (λ (x : ℕ). b.start + x) (zero-mul ones) ∙ add-zero b.start))
        ∙ filled_back b 0 whole some (lit< tt) (λ _ s. set s)

below_or_top : (k : ℕ) → k ≤ 64 → (k < 64) ⊎ (k ≡ 64)
below_or_top k h = go (eqb k 64) refl
  where
    go : (t : Bool) → eqb k 64 ≡ t → (k < 64) ⊎ (k ≡ 64)
    go true e = inr (eqb-true k 64 e)
    go false e = let other = eqb-false k 64 e in inl (omega arith)

-- Every number but 0 is the number of its block.
pub block_back : (r : ℕ) → r < 2 ^ 64 → zero < r → number_of (block_of r) ≡ r
unfolding block_of
block_back r h p = go (r % 2) (bit_lt r) refl (below_or_top k (run_of r).fits)
  where
    k : ℕ
    k = run r

    q : ℕ
    q = r / 2 ^ k

    whole : (d : ℕ) → r % 2 ≡ d → q * 2 ^ k + d * (2 ^ k - 1) ≡ r
    whole d e = ap (λ (x : ℕ). q * 2 ^ k + x) (sym ((run_of r).low ∙ ap (λ (x : ℕ). x * (2 ^ k - 1)) e)) ∙ div-add-mod' r (2 ^ k)

    start_bit : bit k (q * 2 ^ k) ≡ bit k r
    start_bit = ap (λ (x : ℕ). x % 2) (shl-shr q k)

    top_bits : k ≡ 64 → q ≡ 0
    top_bits t = ap (λ (j : ℕ). r / 2 ^ j) t ∙ div-eq_of_lt h

    next : (d : ℕ) → r % 2 ≡ d → k < 64 → bit k r ≡ d → ⊥
    next d e g s = (run_of r).next g (s ∙ sym e)

    go : (d : ℕ) → d < 2 → r % 2 ≡ d → (k < 64) ⊎ (k ≡ 64) → number_of (block_of r) ≡ r
    go zero g e (inl l) = number_zeros (block_of r) (λ c. next 0 e l (sym start_bit ∙ c)) ∙ omega (arith, whole 0 e)
    go zero g e (inr t) = omega (arith, ap (λ (x : ℕ). x * 2 ^ k) (top_bits t), whole 0 e)
    go (suc zero) g e (inl l) = let other = next 1 e l in number_ones (block_of r) (start_bit ∙ omega (arith, bit_lt q)) ∙ omega (arith, whole 1 e)
    go (suc zero) g e (inr t) = number_ones (block_of r) (start_bit ∙ ap (λ (x : ℕ). x % 2) (top_bits t)) ∙ omega (arith, whole 1 e)
    go (suc (suc d)) g e s = omega arith
