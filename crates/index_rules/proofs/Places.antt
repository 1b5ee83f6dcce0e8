-- Whether any of a list passes, by its places.
use Prim.Native.Nat.{ℕ, zero, suc}
use mathlib.Core.Path.{◌≡◌, refl, ap, ◌∙◌}
use mathlib.Core.Bool.{Bool, true, false, ◌||◌}
use mathlib.Core.List.{List, [], ◌∷◌}
use lib.ListN.{length, get_or}
use Rattle.basics.specs.Lists.{any}
use Rattle.basics.specs.Sets.{any_below}

-- Of two tests either may be asked first.
pub or_swap : (p q r : Bool) → (p || (q || r)) ≡ (q || (p || r))
or_swap true true r = refl
or_swap true false r = refl
or_swap false q r = refl

-- The first place taken off.
below_front : (n : ℕ) (test : ℕ → Bool) → any_below (suc n) test ≡ (test zero || any_below n (λ i. test (suc i)))
below_front zero test = refl
below_front (suc n) test =
    ap (λ (t : Bool). test (suc n) || t) (below_front n test) ∙ or_swap (test (suc n)) (test zero) (any_below n (λ i. test (suc i)))

module _ {A : Type 0} (test : A → Bool) where
  pub any_places : (d : A) (xs : List A) → any_below (length xs) (λ i. test (get_or xs i d)) ≡ any test xs
  any_places d [] = refl
  any_places d (x ∷ xs) = below_front (length xs) (λ i. test (get_or (x ∷ xs) i d)) ∙ ap (λ (t : Bool). test x || t) (any_places d xs)
