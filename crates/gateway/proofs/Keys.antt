-- What the order is sorted by, compared field by field: port, size, first event, number.
use Prim.Native.Nat.{ℕ, ◌+◌, ◌*◌, ◌^◌, ◌≤◌, ◌<◌}
use mathlib.Core.Path.{◌≡◌, refl, sym}
use mathlib.Core.Bool.{Bool, true, false}
use native.Mathlib.Omega.{arith}
use borrow.Author.Tests.{ltb-true, ltb-false, lt-ltb, le-ltb}
use lib.Dec.{ltb}
use Rattle.index_rules.specs.Index.{spot}

-- Two comparisons that go the same way.
alike : (a b x y : ℕ) → (a < b → x < y) → (b ≤ a → y ≤ x) → ltb a b ≡ ltb x y
alike a b x y less more = go (ltb a b) refl
  where
    go : (t : Bool) → ltb a b ≡ t → t ≡ ltb x y
    go true e = sym (lt-ltb x y (less (ltb-true a b e)))
    go false e = sym (le-ltb x y (more (ltb-false a b e)))

-- What the code's types bound a line's size, first event and number by.
pub record Fields (k start number : ℕ) : Type 0 where
  pub size : k < 256
  pub event : start < 2 ^ 64
  pub place : number < 256

module _ (port port' : ℕ) {k start number k' start' number' : ℕ} (here : Fields k start number) (there : Fields k' start' number') where
  pub by_port : (port ≡ port' → ⊥) → ltb port port' ≡ ltb (spot port k start * 256 + number) (spot port' k' start' * 256 + number')
  unfolding spot
  by_port other = alike port port' (spot port k start * 256 + number) (spot port' k' start' * 256 + number') (λ less. omega arith) (λ more. omega arith)

  pub by_size_lem : port ≡ port' → (k ≡ k' → ⊥) → ltb k k' ≡ ltb (spot port k start * 256 + number) (spot port' k' start' * 256 + number')
  unfolding spot
  by_size_lem p other = alike k k' (spot port k start * 256 + number) (spot port' k' start' * 256 + number') (λ less. omega arith) (λ more. omega arith)

  pub by_event_lem : port ≡ port' → k ≡ k' → (start ≡ start' → ⊥) → ltb start start' ≡ ltb (spot port k start * 256 + number) (spot port' k' start' * 256 + number')
  unfolding spot
  by_event_lem p s other = alike start start' (spot port k start * 256 + number) (spot port' k' start' * 256 + number') (λ less. omega arith) (λ more. omega arith)

  pub by_number : port ≡ port' → k ≡ k' → start ≡ start' → ltb number number' ≡ ltb (spot port k start * 256 + number) (spot port' k' start' * 256 + number')
  unfolding spot
  by_number p s e = alike number number' (spot port k start * 256 + number) (spot port' k' start' * 256 + number') (λ less. omega arith) (λ more. omega arith)
