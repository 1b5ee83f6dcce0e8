-- Whether one of the numbers below a bound passes, for a loop that counts up and for one that counts down.
use Prim.Native.Nat.{ℕ, zero, suc, ◌+◌, ◌-◌, ◌<◌}
use mathlib.Core.Path.{◌≡◌, sym, ap, ap₂, ◌∙◌}
use mathlib.Core.Logic.{⊎_elim}
use mathlib.Core.Bool.{Bool, true, false, ◌||◌, or-true}
use native.Mathlib.Nat.{eq-or-lt_of_le, le_of_suc-le-suc, not-suc-le-zero}
use native.Mathlib.Numerals.{add-one}
use native.Mathlib.Omega.{arith}
use Rattle.basics.specs.Sets.{any_below}

-- ---- up

pub one_passes : (n : ℕ) (test : ℕ → Bool) (i : ℕ) → i < n → test i ≡ true → any_below n test ≡ true
one_passes zero test i l e = absurd (not-suc-le-zero l)
one_passes (suc n) test i l e =
    ⊎_elim (λ s. ap (λ (t : Bool). t || any_below n test) (ap test (sym s) ∙ e))
    (λ k. ap (λ (t : Bool). test n || t) (one_passes n test i k e) ∙ or-true (test n))
    (eq-or-lt_of_le (le_of_suc-le-suc l))

pub next_fails : (test : ℕ → Bool) (i : ℕ) → any_below i test ≡ false → test i ≡ false → any_below (i + 1) test ≡ false
next_fails test i h e = ap (λ (k : ℕ). any_below k test) (add-one i) ∙ ap₂ (λ (s t : Bool). s || t) e h

-- ---- down

top : (test : ℕ → Bool) (p : ℕ) → 0 < p → any_below p test ≡ (test (p - 1) || any_below (p - 1) test)
top test p h = let next : p ≡ suc (p - 1) = omega arith in ap (λ (k : ℕ). any_below k test) next

pub top_fails : (test : ℕ → Bool) (p : ℕ) → 0 < p → test (p - 1) ≡ false → any_below p test ≡ any_below (p - 1) test
top_fails test p h e = top test p h ∙ ap (λ (t : Bool). t || any_below (p - 1) test) e

pub top_passes : (test : ℕ → Bool) (p : ℕ) → 0 < p → test (p - 1) ≡ true → any_below p test ≡ true
top_passes test p h e = top test p h ∙ ap (λ (t : Bool). t || any_below (p - 1) test) e
