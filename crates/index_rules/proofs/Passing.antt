-- Whether one of the numbers below a bound passes, said of each number and of a list made place by place.
use Prim.Native.Nat.{ℕ, zero, suc, ◌<◌}
use mathlib.Core.Path.{◌≡◌, refl, sym, ap, ap₂, ◌∙◌}
use mathlib.Core.Bool.{Bool, true, false, ◌||◌, or_comm, or-false, false≢true, true≢false}
use mathlib.Core.List.{[], ◌∷◌}
use native.Mathlib.Nat.{le_refl, le_trans, le-suc}
use Rattle.basics.specs.Lists.{any, each}
use Rattle.basics.specs.Sets.{any_below}
use Rattle.basics.proofs.Below.{one_passes}
use Rattle.basics.proofs.Lists.{any_append}

pub record Passes (n : ℕ) (test : ℕ → Bool) : Type 0 where
  pub place : ℕ
  pub there : place < n
  pub passes : test place ≡ true

pub one_found : (n : ℕ) (test : ℕ → Bool) → any_below n test ≡ true → Passes n test
one_found zero test h = absurd (false≢true h)
one_found (suc n) test h = go (test n) refl (one_found n test)
  where
    go : (t : Bool) → test n ≡ t → (any_below n test ≡ true → Passes n test) → Passes (suc n) test
    go true e rest = record { place = n; there = le_refl (suc n); passes = e }
    go false e rest =
        let f = rest (sym (ap (λ (t : Bool). t || any_below n test) e) ∙ h) in
        record { place = f.place; there = le_trans f.there (le-suc n); passes = f.passes }

pub each_fails : (n : ℕ) (test : ℕ → Bool) → any_below n test ≡ false → (i : ℕ) → i < n → test i ≡ false
each_fails n test h i l = go (test i) refl
  where
    go : (t : Bool) → test i ≡ t → test i ≡ false
    go true e = absurd (true≢false (sym (one_passes n test i l e) ∙ h))
    go false e = e

pub none_passes : (n : ℕ) (test : ℕ → Bool) → ((i : ℕ) → i < n → test i ≡ false) → any_below n test ≡ false
none_passes n test h = go (any_below n test) refl
  where
    go : (t : Bool) → any_below n test ≡ t → any_below n test ≡ false
    go true e = let f = one_found n test e in absurd (true≢false (sym f.passes ∙ h f.place f.there))
    go false e = e

pub any_each : {A : Type 0} (test : A → Bool) (n : ℕ) (at : ℕ → A) → any test (each n at) ≡ any_below n (λ i. test (at i))
unfolding each
any_each test zero at = refl
any_each test (suc n) at =
    any_append test (each n at) (at n ∷ [])
    ∙ ap₂ (λ (s t : Bool). s || t) (any_each test n at) (or-false (test (at n)))
    ∙ or_comm (any_below n (λ i. test (at i))) (test (at n))

-- Tests that say the same of each number say the same of all.
pub below_same : (n : ℕ) (f g : ℕ → Bool) → ((i : ℕ) → i < n → f i ≡ g i) → any_below n f ≡ any_below n g
below_same zero f g h = refl
below_same (suc n) f g h = ap₂ (λ (s t : Bool). s || t) (h n (le_refl (suc n))) (below_same n f g (λ i l. h i (le_trans l (le-suc n))))
