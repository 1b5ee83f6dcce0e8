-- The test of the order at one place.
use Prim.Native.Nat.{ℕ, ◌-◌, ◌≤◌, ◌<◌}
use mathlib.Core.Path.{◌≡◌, sym}
use mathlib.Core.Bool.{Bool, true, false, not}
use native.Mathlib.Omega.{arith}
use borrow.Author.Tests.{ltb-true, ltb-false, le-leb, lt-leb, lt-ltb, le-ltb}
use lib.Dec.{leb, ltb}
use Rattle.index_rules.specs.Agreeing.{key, stray}

not_behind_lem : (x y : ℕ) (before : Bool) → before ≡ ltb x y → leb y x ≡ not before
not_behind_lem x y true e = lt-leb y x (ltb-true x y (sym e))
not_behind_lem x y false e = le-leb y x (ltb-false x y (sym e))

module _ (spotAt : ℕ → ℕ) (n : ℕ) (at : ℕ → ℕ) where
  pub no_number : (i : ℕ) → n ≤ at i → stray spotAt n at i ≡ true
  no_number i l = rw (le-leb n (at i) l)

  -- The first place has none in front of it.
  pub first_stays : (i : ℕ) → i ≡ 0 → at i < n → stray spotAt n at i ≡ false
  first_stays i e l = rw (lt-leb n (at i) l, le-ltb 0 i (omega arith))

  pub next_strays : (i front : ℕ) (before : Bool) → 0 < i → front ≡ i - 1 → at i < n → before ≡ ltb (key spotAt (at front)) (key spotAt (at i)) → stray spotAt n at i ≡ not before
  next_strays i front before h e l t = rw (lt-leb n (at i) l, lt-ltb 0 i h, sym e) (not_behind_lem (key spotAt (at front)) (key spotAt (at i)) before t)
