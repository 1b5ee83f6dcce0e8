-- The share held back is "to the nearest, halves up" (document 02, W7): no whole number of tenths is closer, and of two as close it is the larger.
use Prim.Native.Nat.{ℕ, ◌+◌, ◌-◌, ◌*◌, ◌/◌, ◌≤◌, ◌<◌}
use mathlib.Core.Path.{◌≡◌, sym}
use mathlib.Core.Logic.{◌⊎◌, inl, inr}
use native.Mathlib.Nat.{le_refl, mul_assoc, mul_comm, add-mul, suc-mul, mul-le-mul_right, div-mul-le_self, lt-div-mul-add, div-lt_iff_lt-mul, div-eq_of_lt-le}
use native.Mathlib.Omega.{arith}
use Rattle.index_rules.proofs.Comparing.{less_or_not}
use Rattle.meter_rules.specs.Shares.{tenths_of}

-- How far two numbers are apart.
abbrev pub apart : ℕ → ℕ → ℕ
apart a b = (a - b) + (b - a)

-- A thousand times held back is at most half of the sum under t times the sum, and less than half of it over.
abbrev pub Nearest : ℕ → ℕ → ℕ → Type 0
Nearest sent held t = (2 * t * (sent + held) ≤ 2000 * held + (sent + held)) × (2000 * held < 2 * t * (sent + held) + (sent + held))

module _ (sent held : ℕ) (some : 0 < sent + held) where
  twice : (t : ℕ) → t * (2 * (sent + held)) ≡ 2 * t * (sent + held)
  twice t = omega (arith, mul_assoc t 2 (sent + held), mul_comm t 2)

  pub nearest : Nearest sent held (tenths_of sent held)
  unfolding tenths_of
  nearest =
      let above : 0 < 2 * (sent + held) = omega arith in
      let n = 2000 * held + (sent + held) in
      let t = n / (2 * (sent + held)) in
      (omega (arith, twice t, div-mul-le_self n (2 * (sent + held))), omega (arith, twice t, lt-div-mul-add {a = n} above))

  pub only_one : (t : ℕ) → Nearest sent held t → t ≡ tenths_of sent held
  unfolding tenths_of
  only_one t (over, under) = sym (div-eq_of_lt-le (2 * (sent + held)) (omega (arith, twice t)) (omega (arith, twice t, add-mul t 1 (2 * (sent + held)))))

  pub closest : (k : ℕ) → apart (1000 * held) (tenths_of sent held * (sent + held)) ≤ apart (1000 * held) (k * (sent + held))
  closest k = go (less_or_not k t) (less_or_not t k)
    where
      t : ℕ
      t = tenths_of sent held

      -- One tenth more is the whole sum more.
      step : (i j : ℕ) → i < j → i * (sent + held) + (sent + held) ≤ j * (sent + held)
      step i j l = omega (arith, mul-le-mul_right (sent + held) l, suc-mul i (sent + held))

      go : (k < t) ⊎ (t ≤ k) → (t < k) ⊎ (k ≤ t) → apart (1000 * held) (t * (sent + held)) ≤ apart (1000 * held) (k * (sent + held))
      go (inl less) more = omega (arith, step k t less, nearest.0, mul_assoc 2 t (sent + held))
      go (inr least) (inl more) = omega (arith, step t k more, nearest.1, mul_assoc 2 t (sent + held))
      go (inr least) (inr most) = let same : t ≡ k = omega arith in rw same (le_refl (apart (1000 * held) (k * (sent + held))))

  pub at_most_all : tenths_of sent held ≤ 1000
  unfolding tenths_of
  at_most_all =
      let above : 0 < 2 * (sent + held) = omega arith in
      let n = 2000 * held + (sent + held) in
      omega (arith, (div-lt_iff_lt-mul {x = n} {y = 1001} above).1 (omega arith))
