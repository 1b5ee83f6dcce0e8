-- What proofs cite of blocks and of their answers, in place of the definitions' text.
use Prim.Native.Nat.{ℕ, zero, ◌+◌, ◌-◌, ◌*◌, ◌/◌, ◌%◌, ◌^◌, ◌≤◌, ◌<◌}
use mathlib.Core.Path.{◌≡◌, refl, sym, ap, ap₂, ◌∙◌}
use mathlib.Core.Logic.{◌↔◌}
use mathlib.Core.Bool.{Bool, true, false, cond, not, and-false}
use native.Mathlib.Nat.{eq_of_mul-eq-mul_right, mod-lt, mod-eq_of_lt, mod-one, mul-mod_left, div-add-mod', div-eq_of_lt-le}
use native.Mathlib.Omega.{arith}
use borrow.Author.Tests.{not-true, eqb-true, eqb-false, eq-eqb, ne_eqb, leb-true, le-leb, lt-leb}
use lib.Dec.{leb, eqb}
use lib.Count.{count_trailing_zeros}
use lib.Pow.{pow_pos}
use Rattle.basics.proofs.Bools.{both, same_truth}
use Rattle.range.specs.declared.Block.{Block}
use Rattle.numbers.specs.Bits.{bit}
use Rattle.range.specs.Range.{run, is_block, in_block, last, single, block_of, has_number, number_of}
use Rattle.basics.specs.Refusals.{Told, told, refused, in_numbers, refusal_in, told_or}
use Rattle.std.specs.Prelude.{Result}
use Rattle.basics.specs.declared.Refusal.{Refusal}
use Rattle.basics.proofs.Numbers.{refusal_told}
use Rattle.range.specs.Answer.{number_told, holds_told}
use Rattle.range.proofs.Runs.{run_of, zeros_divide}

-- ---- what a block is

pub block_made : (b : Block) → b.k ≤ 64 → b.start % 2 ^ b.k ≡ 0 → is_block b ≡ true
unfolding is_block
block_made b h e = rw (le-leb b.k 64 h, eq-eqb (b.start % 2 ^ b.k) 0 e)

pub block_parts : (b : Block) → is_block b ≡ true → (b.k ≤ 64) × (b.start % 2 ^ b.k ≡ 0)
unfolding is_block
block_parts b e =
    let h = both (leb b.k 64) (eqb (b.start % 2 ^ b.k) 0) e in
    (leb-true b.k 64 h.0, eqb-true (b.start % 2 ^ b.k) 0 h.1)

pub block_start : (b : Block) → is_block b ≡ true → b.start / 2 ^ b.k * 2 ^ b.k ≡ b.start
block_start b e = omega (arith, div-add-mod' b.start (2 ^ b.k), (block_parts b e).1)

pub block_too_wide : (b : Block) → 64 < b.k → is_block b ≡ false
unfolding is_block
block_too_wide b h = rw (lt-leb b.k 64 h)

pub single_block : (e : ℕ) → is_block (single e) ≡ true
single_block e = block_made (single e) (omega arith) (mod-one e)

pub block_of_block : (r : ℕ) → is_block (block_of r) ≡ true
unfolding block_of
block_of_block r = block_made (block_of r) (run_of r).fits (mul-mod_left (r / 2 ^ run r) (2 ^ run r))

-- ---- what a block holds

-- p consecutive numbers from a multiple of p on have one quotient by p.
pub between_quotient : (q p e : ℕ) → zero < p → q * p ≤ e → e ≤ q * p + (p - 1) → e / p ≡ q
between_quotient q p e h l g = div-eq_of_lt-le p l (omega arith)

pub quotient_between : (p e : ℕ) → zero < p → (e / p * p ≤ e) × (e ≤ e / p * p + (p - 1))
quotient_between p e h = omega (arith, div-add-mod' e p, mod-lt e h)

pub in_block_between : (b : Block) (e : ℕ) → (in_block b e ≡ true) ↔ ((b.start ≤ e) × (e ≤ last b))
unfolding in_block
in_block_between b e = (
  λ t. let h = both (leb b.start e) (leb e (last b)) t in (leb-true b.start e h.0, leb-true e (last b) h.1),
  λ h. rw (le-leb b.start e h.0, le-leb e (last b) h.1),
)

-- An event is in a block where the two agree above the low k bits.
pub in_block_prefix : (b : Block) (e : ℕ) → is_block b ≡ true → in_block b e ≡ eqb (e / 2 ^ b.k) (b.start / 2 ^ b.k)
in_block_prefix b e v = same_truth (in_block b e) (eqb (e / 2 ^ b.k) (b.start / 2 ^ b.k)) there back
  where
    start : b.start / 2 ^ b.k * 2 ^ b.k ≡ b.start
    start = block_start b v

    there : in_block b e ≡ true → eqb (e / 2 ^ b.k) (b.start / 2 ^ b.k) ≡ true
    there t =
        let h = (in_block_between b e).0 t in
        eq-eqb (e / 2 ^ b.k) (b.start / 2 ^ b.k)
        (between_quotient (b.start / 2 ^ b.k) (2 ^ b.k) e (pow_pos b.k) (omega (arith, start, h.0)) (omega (arith, start, h.1)))

    back : eqb (e / 2 ^ b.k) (b.start / 2 ^ b.k) ≡ true → in_block b e ≡ true
    back t =
        let q : e / 2 ^ b.k ≡ b.start / 2 ^ b.k = eqb-true (e / 2 ^ b.k) (b.start / 2 ^ b.k) t in
        let h = quotient_between (2 ^ b.k) e (pow_pos b.k) in
        let s : e / 2 ^ b.k * 2 ^ b.k ≡ b.start = ap (λ (x : ℕ). x * 2 ^ b.k) q ∙ start in
        (in_block_between b e).1 (omega (arith, s, h.0), omega (arith, s, h.1))

-- The same by the event's bits above the low k, at their places.
pub in_block_above : (b : Block) (e : ℕ) → is_block b ≡ true → in_block b e ≡ eqb (e / 2 ^ b.k * 2 ^ b.k) b.start
in_block_above b e v =
    in_block_prefix b e v
    ∙ same_truth _ _
    (λ t. eq-eqb _ _ (ap (λ (x : ℕ). x * 2 ^ b.k) (eqb-true _ _ t) ∙ block_start b v))
    (λ t. eq-eqb _ _ (eq_of_mul-eq-mul_right (2 ^ b.k) (pow_pos b.k) _ _ (eqb-true _ _ t ∙ sym (block_start b v))))

-- ---- what the code tests

-- Counting the zeros of its start tests a block.
pub block_counted : (b : Block) → leb b.k (count_trailing_zeros 64 b.start) ≡ is_block b
unfolding is_block
block_counted b = zeros_divide 64 b.start b.k

-- A start that is the bits of an event above the low k is a multiple of 2^k.
pub prefix_block : (b : Block) (e : ℕ) → b.k ≤ 64 → e / 2 ^ b.k * 2 ^ b.k ≡ b.start → is_block b ≡ true
prefix_block b e h s = block_made b h (ap (λ (x : ℕ). x % 2 ^ b.k) (sym s) ∙ mul-mod_left (e / 2 ^ b.k) (2 ^ b.k))

-- ---- the answers

pub holds_told_lem : (b : Block) (e : ℕ) → is_block b ≡ true → holds_told b e ≡ told (in_block b e)
unfolding holds_told
holds_told_lem b e v = rw v

pub holds_refused : (b : Block) (e : ℕ) → is_block b ≡ false → holds_told b e ≡ refused 14 false
unfolding holds_told
holds_refused b e v = rw v

pub number_told_lem : (b : Block) → (b.k ≡ 0 → ⊥) → is_block b ≡ true → number_told b ≡ told (number_of b)
unfolding number_told has_number
number_told_lem b h v = rw (ne_eqb b.k 0 h, v)

pub number_refused : (b : Block) → has_number b ≡ false → number_told b ≡ refused 14 0
unfolding number_told
number_refused b v = rw v

pub number_parts : (b : Block) → has_number b ≡ true → (zero < b.k) × (is_block b ≡ true)
unfolding has_number
number_parts b v =
    let h = both (not (eqb b.k 0)) (is_block b) v in
    let some : b.k ≡ 0 → ⊥ = eqb-false b.k 0 (not-true (eqb b.k 0) h.0) in
    (omega arith, h.1)

pub single_no_number : (b : Block) → b.k ≡ 0 → has_number b ≡ false
unfolding has_number
single_no_number b h = rw (eq-eqb b.k 0 h)

pub no_block_no_number : (b : Block) → is_block b ≡ false → has_number b ≡ false
unfolding has_number
no_block_no_number b v = rw v (and-false (not (eqb b.k 0)))

-- A block's number, by bit k of its start.
pub number_ones : (b : Block) → bit b.k b.start ≡ 0 → number_of b ≡ last b
unfolding number_of
number_ones b h = rw (eq-eqb (bit b.k b.start) 0 h)

pub number_zeros : (b : Block) → (bit b.k b.start ≡ 0 → ⊥) → number_of b ≡ b.start
unfolding number_of
number_zeros b h = rw (ne_eqb (bit b.k b.start) 0 h)

-- The whole space is written as all ones.
pub number_whole : (b : Block) → b.start < 2 ^ 64 → b.k ≡ 64 → is_block b ≡ true → number_of b ≡ 2 ^ 64 - 1
number_whole b h k v =
    let low : b.start % 2 ^ 64 ≡ 0 = rw k at (block_parts b v).1 in
    let zero-start : b.start ≡ 0 = sym (mod-eq_of_lt h) ∙ low in
    number_ones b (ap₂ bit k zero-start) ∙ ap₂ (λ (s i : ℕ). s + (2 ^ i - 1)) zero-start k

-- ---- what the code's answers say

pub answer_says : (b : Block) (e : ℕ) (r s : Result Bool Refusal) → is_block b ≡ true → told_or false (in_numbers r) ≡ holds_told b e → r ≡ s
    → in_block b e ≡ (told_or false (in_numbers s)).value
answer_says b e r s g h k = sym (ap (λ (t : Told Bool). t.value) (h ∙ holds_told_lem b e g)) ∙ ap (λ (x : Result Bool Refusal). (told_or false (in_numbers x)).value) k

number_given : (t : Bool) (n : ℕ) → eqb (cond t (told n) (refused 14 0)).refusal 0 ≡ t
number_given true n = refl
number_given false n = refl

pub number_says : (b : Block) (r s : Result ℕ Refusal) → told_or 0 (in_numbers r) ≡ number_told b → r ≡ s → has_number b ≡ eqb (refusal_in s) 0
unfolding number_told
number_says b r s h k =
    sym (number_given (has_number b) (number_of b)) ∙ ap (λ (t : Told ℕ). eqb t.refusal 0) (sym h) ∙ ap (λ (n : ℕ). eqb n 0) (refusal_told 0 r) ∙ ap (λ (x : Result ℕ Refusal). eqb (refusal_in x) 0) k
