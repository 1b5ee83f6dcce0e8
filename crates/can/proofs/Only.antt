-- The one of a list that passes a test: what is found, left out and changed by the test.
use Prim.Native.Nat.{ℕ, ◌<◌, suc-le-suc, zero-le}
use mathlib.Core.Path.{◌≡◌, refl, ap, ap₂, ◌∙◌}
use mathlib.Core.Bool.{Bool, true, false, cond, not, ◌&&◌, ◌||◌, or-false}
use mathlib.Core.List.{List, [], ◌∷◌, map}
use lib.ListN.{length, get_or, set}
use Rattle.std.specs.Prelude.{remove}
use Rattle.basics.specs.Lists.{any, without}
use Rattle.basics.proofs.Bools.{neither}
use Rattle.basics.proofs.Lists.{without_nothing}
use Rattle.can.specs.States.{Only, here, later}

-- Where none passes.
module _ {A : Type 0} (test : A → Bool) where
  none_with : (more : A → Bool) (xs : List A) → any test xs ≡ false → any (λ x. test x && more x) xs ≡ false
  none_with more [] e = refl
  none_with more (x ∷ xs) e =
      let h = neither (test x) (any test xs) e in
      ap₂ (λ s t. (s && more x) || t) h.0 (none_with more xs h.1)

  none_kept : (xs : List A) → any test xs ≡ false → without (λ x. not (test x)) xs ≡ []
  none_kept [] e = refl
  none_kept (x ∷ xs) e =
      let h = neither (test x) (any test xs) e in
      ap₂ (λ t r. cond (not t) r (x ∷ r)) h.0 (none_kept xs h.1)

  module _ (f : A → A) (stays : (x : A) → test x ≡ false → f x ≡ x) where
    none_changed : (xs : List A) → any test xs ≡ false → map f xs ≡ xs
    none_changed [] e = refl
    none_changed (x ∷ xs) e = let h = neither (test x) (any test xs) e in ap₂ (λ y ys. y ∷ ys) (stays x h.0) (none_changed xs h.1)

    pub changed : (d : A) {xs : List A} {i : ℕ} → Only test xs i → map f xs ≡ set xs i (f (get_or xs i d))
    changed d (here {x = x} {xs = xs} e none) = ap (λ ys. f x ∷ ys) (none_changed xs none)
    changed d (later {x = x} e o) = ap₂ (λ y ys. y ∷ ys) (stays x e) (changed d o)

  pub found : {xs : List A} {i : ℕ} → Only test xs i → any test xs ≡ true
  found (here {xs = xs} e none) = ap (λ t. t || any test xs) e
  found (later {xs = xs} e o) = ap₂ (λ s t. s || t) e (found o)

  pub within : {xs : List A} {i : ℕ} → Only test xs i → i < length xs
  within (here e none) = suc-le-suc zero-le
  within (later e o) = suc-le-suc (within o)

  pub passes : (d : A) {xs : List A} {i : ℕ} → Only test xs i → test (get_or xs i d) ≡ true
  passes d (here e none) = e
  passes d (later e o) = passes d o

  pub left_out : {xs : List A} {i : ℕ} → Only test xs i → without test xs ≡ remove xs i
  left_out (here {x = x} {xs = xs} e none) = ap (λ t. cond t (without test xs) (x ∷ without test xs)) e ∙ without_nothing test xs none
  left_out (later {x = x} {xs = xs} e o) = ap₂ (λ t r. cond t r (x ∷ r)) e (left_out o)

  pub kept : (d : A) {xs : List A} {i : ℕ} → Only test xs i → without (λ x. not (test x)) xs ≡ get_or xs i d ∷ []
  kept d (here {x = x} {xs = xs} e none) = ap₂ (λ t r. cond (not t) r (x ∷ r)) e (none_kept xs none)
  kept d (later {x = x} {xs = xs} e o) = ap₂ (λ t r. cond (not t) r (x ∷ r)) e (kept d o)

  pub any_with : (more : A → Bool) (d : A) {xs : List A} {i : ℕ} → Only test xs i → any (λ x. test x && more x) xs ≡ more (get_or xs i d)
  any_with more d (here {x = x} {xs = xs} e none) = ap₂ (λ s t. (s && more x) || t) e (none_with more xs none) ∙ or-false (more x)
  any_with more d (later {x = x} {xs = xs} e o) = ap₂ (λ s t. (s && more x) || t) e (any_with more d o)

  -- What holds of all holds of it.
  pub clear : (bad : A → Bool) (d : A) {xs : List A} {i : ℕ} → Only test xs i → any bad xs ≡ false → bad (get_or xs i d) ≡ false
  clear bad d (here {x = x} {xs = xs} e none) h = (neither (bad x) (any bad xs) h).0
  clear bad d (later {x = x} {xs = xs} e o) h = clear bad d o (neither (bad x) (any bad xs) h).1
