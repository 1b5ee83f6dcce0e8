-- Sums over all ports.
use Prim.Native.Nat.{ℕ, zero, suc, ◌+◌, ◌*◌, ◌≤◌, ◌<◌}
use mathlib.Core.Path.{◌≡◌, refl, ap₂}
use mathlib.Core.Bool.{Bool, true, false, cond}
use native.Mathlib.Nat.{le_refl, not-suc-le-zero, suc-mul}
use native.Mathlib.Omega.{arith}
use borrow.Author.Tests.{eqb-true, eqb-false, ne_eqb}
use lib.Dec.{eqb}
use Rattle.meter_rules.specs.Meters.{sum_below}

pub sum_same : (n : ℕ) (f g : ℕ → ℕ) → ((p : ℕ) → p < n → f p ≡ g p) → sum_below n f ≡ sum_below n g
sum_same zero f g h = refl
sum_same (suc n) f g h = ap₂ (λ (x y : ℕ). x + y) (h n (le_refl (suc n))) (sum_same n f g (λ p l. h p (omega arith)))

pub sum_plus : (n : ℕ) (f g : ℕ → ℕ) → sum_below n (λ p. f p + g p) ≡ sum_below n f + sum_below n g
sum_plus zero f g = refl
sum_plus (suc n) f g = omega (arith, sum_plus n f g)

-- The same at each port.
pub sum_level : (n k : ℕ) → sum_below n (λ _. k) ≡ n * k
sum_level zero k = omega arith
sum_level (suc n) k = omega (arith, sum_level n k, suc-mul n k)

-- ---- one at one port

none_below : (n q : ℕ) → n ≤ q → sum_below n (λ p. cond (eqb q p) 1 0) ≡ 0
none_below zero q l = refl
none_below (suc n) q l = rw (ne_eqb q n (λ e. omega (arith, e))) (omega (arith, none_below n q (omega arith)))

pub sum_one : (n q : ℕ) → q < n → sum_below n (λ p. cond (eqb q p) 1 0) ≡ 1
sum_one zero q l = absurd (not-suc-le-zero l)
sum_one (suc n) q l = go (eqb q n) refl (sum_one n q)
  where
    go : (t : Bool) → eqb q n ≡ t → (q < n → sum_below n (λ p. cond (eqb q p) 1 0) ≡ 1) → cond t 1 0 + sum_below n (λ p. cond (eqb q p) 1 0) ≡ 1
    go true e rest = omega (arith, none_below n q (omega (arith, eqb-true q n e)))
    go false e rest = omega (arith, rest (omega (arith, eqb-false q n e)))
