-- The zeros below the next bit of a set are passed over in one step.
use Prim.Native.Nat.{ℕ, ◌+◌, ◌-◌, ◌/◌, ◌%◌, ◌^◌, ◌≤◌, ◌<◌}
use mathlib.Core.Path.{◌≡◌, sym, ap, ◌∙◌, subst}
use mathlib.Core.Logic.{⊎_elim}
use mathlib.Core.Bool.{Bool, true, false, ◌&&◌, and-false}
use native.Mathlib.Nat.{le_refl, zero-div}
use native.Mathlib.Omega.{arith}
use borrow.Author.Tests.{eqb-true, eq-eqb, ne_eqb, le-leb}
use lib.Count.{count_trailing_zeros}
use lib.Dec.{leb, eqb, lit<}
use lib.Pow.{shr-shr, field}
use Rattle.range.proofs.Runs.{Run, bit_lt, zeros_counted, zeros_divide, run_is}
use Rattle.basics.specs.Sets.{any_below, in_set}
use Rattle.basics.proofs.Bools.{both}
use Rattle.basics.proofs.Below.{one_passes, next_fails}
use Rattle.index_rules.proofs.Comparing.{less_or_not}
use Rattle.index_rules.proofs.Passing.{each_fails, none_passes}

-- ---- the bits of a number

-- Those below the count of its zeros are 0, and the next is 1.
zero_bit : (w x d : ℕ) → d < count_trailing_zeros w x → x / 2 ^ d % 2 ≡ 0
zero_bit w x d l =
    let counted : (leb (1 + d) w && eqb (x % 2 ^ (1 + d)) 0) ≡ true = sym (zeros_divide w x (1 + d)) ∙ le-leb (1 + d) (count_trailing_zeros w x) (omega arith) in
    let divided = eqb-true (x % 2 ^ (1 + d)) 0 (both (leb (1 + d) w) (eqb (x % 2 ^ (1 + d)) 0) counted).1 in
    sym (field x 1 d) ∙ ap (λ (y : ℕ). y / 2 ^ d) divided ∙ zero-div (2 ^ d)

one_bit : (w x : ℕ) → count_trailing_zeros w x < w → x / 2 ^ count_trailing_zeros w x % 2 ≡ 1
one_bit w x l =
    let run : Run 0 w x (count_trailing_zeros w x) = subst (Run 0 w x) (sym (zeros_counted w x)) (run_is 0 w x (lit< tt)) in
    let on = run.next l in
    omega (arith, bit_lt (x / 2 ^ count_trailing_zeros w x))

-- A bit of what is left of a set.
bit_left : (set k d : ℕ) → set / 2 ^ k / 2 ^ d % 2 ≡ set / 2 ^ (k + d) % 2
bit_left set k d = ap (λ (x : ℕ). x % 2) (shr-shr set k d)

-- ---- from k on

-- The next of a set that is not below k, or 64 and more where there is none.
abbrev pub next_in : ℕ → ℕ → ℕ
next_in set k = k + count_trailing_zeros 64 (set / 2 ^ k)

module _ (set k : ℕ) where
  passed_over : (j : ℕ) → k ≤ j → j < next_in set k → in_set set j ≡ false
  passed_over j l b =
      let place : k + (j - k) ≡ j = omega arith in
      let off = sym (bit_left set k (j - k)) ∙ zero_bit 64 (set / 2 ^ k) (j - k) (omega arith) in
      ne_eqb (set / 2 ^ j % 2) 1 (λ e. omega (arith, e, ap (λ (i : ℕ). set / 2 ^ i % 2) place, off))

  landed_on : next_in set k < 64 → in_set set (next_in set k) ≡ true
  landed_on b = eq-eqb (set / 2 ^ next_in set k % 2) 1 (sym (bit_left set k (count_trailing_zeros 64 (set / 2 ^ k))) ∙ one_bit 64 (set / 2 ^ k) (omega arith))

-- ---- a test of those in the set

module _ (set k : ℕ) (test : ℕ → Bool) where
  abbrev in_test : ℕ → Bool
  in_test j = in_set set j && test j

  pub none_to_next : (n : ℕ) → n ≤ next_in set k → any_below k in_test ≡ false → any_below n in_test ≡ false
  none_to_next n b none =
      none_passes n in_test
      (λ j l. ⊎_elim (each_fails k in_test none j) (λ m. ap (λ (t : Bool). t && test j) (passed_over set k j m (omega arith))) (less_or_not j k))

  pub next_passes : next_in set k < 64 → test (next_in set k) ≡ true → any_below 64 in_test ≡ true
  next_passes b t = one_passes 64 in_test (next_in set k) b (ap (λ (s : Bool). s && test (next_in set k)) (landed_on set k b) ∙ t)

  pub not_the_next : any_below k in_test ≡ false → test (next_in set k) ≡ false → any_below (next_in set k + 1) in_test ≡ false
  not_the_next none t =
      next_fails in_test (next_in set k) (none_to_next (next_in set k) (le_refl (next_in set k)) none)
      (ap (λ (s : Bool). in_set set (next_in set k) && s) t ∙ and-false (in_set set (next_in set k)))
