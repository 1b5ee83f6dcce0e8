-- The test of the order, place by place, finds exactly the orders that do not agree.
use Prim.Native.Nat.{ℕ, ◌+◌, ◌-◌, ◌≤◌, ◌<◌}
use mathlib.Core.Path.{◌≡◌, sym, ap, ap₂, ◌∙◌, subst}
use mathlib.Core.Logic.{◌⊎◌, inl, inr}
use mathlib.Core.Bool.{Bool, false, ◌&&◌, ◌||◌, and-false}
use native.Mathlib.Omega.{arith}
use borrow.Author.Tests.{leb-false, lt-leb, lt-ltb, le-ltb}
use lib.Dec.{leb, ltb}
use Rattle.basics.proofs.Bools.{neither}
use Rattle.index_rules.specs.Agreeing.{key, Agrees, stray, disagrees}
use Rattle.index_rules.proofs.Comparing.{less_or_not}
use Rattle.index_rules.proofs.Passing.{each_fails, none_passes}

module _ (spotAt : ℕ → ℕ) (n : ℕ) (at : ℕ → ℕ) where
  -- Place i does not stand behind place j.
  abbrev not_behind : ℕ → ℕ → Bool
  not_behind i j = leb (key spotAt (at i)) (key spotAt (at j))

  pub test_agrees : disagrees spotAt n at ≡ false → Agrees spotAt n at
  test_agrees e = record {
    below = λ i l. leb-false n (at i) (parts i l).0;
    rising = λ i l.
        let back : i + 1 - 1 ≡ i = omega arith in
        let up : not_behind (i + 1) i ≡ false
        = sym (ap₂ (λ (t : Bool) (j : ℕ). t && not_behind (i + 1) j) (lt-ltb 0 (i + 1) (omega arith)) back) ∙ (parts (i + 1) l).1 in
        leb-false (key spotAt (at (i + 1))) (key spotAt (at i)) up;
  }
    where
      parts : (i : ℕ) → i < n → (leb n (at i) ≡ false) × ((ltb 0 i && not_behind i (i - 1)) ≡ false)
      parts i l = neither (leb n (at i)) (ltb 0 i && not_behind i (i - 1)) (each_fails n (stray spotAt n at) e i l)

  pub agrees_test : Agrees spotAt n at → disagrees spotAt n at ≡ false
  agrees_test a = none_passes n (stray spotAt n at) (λ i l. ap₂ (λ (s t : Bool). s || t) (lt-leb n (at i) (a.below i l)) (behind i l (less_or_not 0 i)))
    where
      behind : (i : ℕ) → i < n → (0 < i) ⊎ (i ≤ 0) → (ltb 0 i && not_behind i (i - 1)) ≡ false
      behind i l (inl h) =
          let here : i - 1 + 1 ≡ i = omega arith in
          let up : key spotAt (at (i - 1)) < key spotAt (at i) = subst (λ (m : ℕ). key spotAt (at (i - 1)) < key spotAt (at m)) here (a.rising (i - 1) (omega arith)) in
          ap (λ (t : Bool). ltb 0 i && t) (lt-leb (key spotAt (at i)) (key spotAt (at (i - 1))) up) ∙ and-false (ltb 0 i)
      behind i l (inr h) = ap (λ (t : Bool). t && not_behind i (i - 1)) (le-ltb 0 i h)
