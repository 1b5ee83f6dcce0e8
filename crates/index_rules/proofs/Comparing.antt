-- Two numbers, compared.
use Prim.Native.Nat.{ℕ, ◌≤◌, ◌<◌}
use mathlib.Core.Path.{◌≡◌, refl}
use mathlib.Core.Logic.{◌⊎◌, inl, inr}
use mathlib.Core.Bool.{Bool, true, false}
use borrow.Author.Tests.{ltb-true, ltb-false}
use lib.Dec.{ltb}

pub less_or_not : (i j : ℕ) → (i < j) ⊎ (j ≤ i)
less_or_not i j = go (ltb i j) refl
  where
    go : (t : Bool) → ltb i j ≡ t → (i < j) ⊎ (j ≤ i)
    go true e = inl (ltb-true i j e)
    go false e = inr (ltb-false i j e)
