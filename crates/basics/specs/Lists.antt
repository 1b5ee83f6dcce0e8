-- Lists: what passes a test, what is there, what is left out, what the first one gives, and a list made place by place.
use Rattle.std.specs.Prelude.{ℕ, zero, suc, ◌≡◌, ◌⊎◌, Bool, false, cond, ◌||◌, List, [], ◌∷◌, ◌++◌}

-- Whether any of a list passes.
abbrev pub any : {A : Type 0} → (A → Bool) → List A → Bool
any test [] = false
any test (x ∷ xs) = test x || any test xs

-- One of a list.
abbrev pub Among : {A : Type 0} → A → List A → Type 0
Among x [] = ⊥
Among x (y ∷ ys) = (x ≡ y) ⊎ Among x ys

-- Those that do not pass, in their order.
abbrev pub without : {A : Type 0} → (A → Bool) → List A → List A
without test [] = []
without test (x ∷ xs) = cond (test x) (without test xs) (x ∷ without test xs)

-- What the first one gives; `none` where there is none.
abbrev pub first_or : {A R : Type 0} → R → (A → R) → List A → R
first_or none gives [] = none
first_or none gives (x ∷ xs) = gives x

-- What stands at each of the first n places.
unfoldable pub each : {A : Type 0} → ℕ → (ℕ → A) → List A
each zero at = []
each (suc n) at = each n at ++ (at n ∷ [])
