-- "The index names every line once and no other", by induction on the insertions, and what passes among the lines that it names.
use Prim.Native.Nat.{ℕ, zero, suc, ◌+◌, zero-le}
use mathlib.Core.Path.{◌≡◌, refl, sym, ap, ◌∙◌}
use mathlib.Core.Bool.{Bool, true, false, cond, ◌||◌}
use mathlib.Core.List.{List, [], ◌∷◌}
use native.Mathlib.Omega.{arith}
use borrow.Author.Tests.{ltb-true, ltb-false, lt-ltb, le-ltb, eqb-true, eqb-false}
use lib.Dec.{eqb, ltb}
use lib.ListN.{length}
use Rattle.basics.specs.Lists.{any}
use Rattle.basics.specs.Sets.{any_below}
use Rattle.gateway_rules.specs.declared.Line.{Line}
use Rattle.index_rules.specs.Index.{spot_of, line_of, put_in, sorted, index_of}
use Rattle.index_rules.specs.Agreeing.{how_often}
use Rattle.index_rules.proofs.Places.{or_swap, any_places}

-- ---- one number put in

module _ (spotAt : ℕ → ℕ) where
  pub any_put : (test : ℕ → Bool) (i : ℕ) (xs : List ℕ) → any test (put_in spotAt i xs) ≡ (test i || any test xs)
  any_put test i [] = refl
  any_put test i (x ∷ xs) = go (ltb (spotAt i) (spotAt x)) (any_put test i xs)
    where
      go : (t : Bool) → any test (put_in spotAt i xs) ≡ (test i || any test xs)
          → any test (cond t (i ∷ (x ∷ xs)) (x ∷ put_in spotAt i xs)) ≡ (test i || (test x || any test xs))
      go true e = refl
      go false e = ap (λ (t : Bool). test x || t) e ∙ or_swap (test x) (test i) (any test xs)

  pub often_put : (j i : ℕ) (xs : List ℕ) → how_often j (put_in spotAt i xs) ≡ cond (eqb j i) 1 0 + how_often j xs
  unfolding how_often
  often_put j i [] = refl
  often_put j i (x ∷ xs) = go (ltb (spotAt i) (spotAt x)) (often_put j i xs)
    where
      go : (t : Bool) → how_often j (put_in spotAt i xs) ≡ cond (eqb j i) 1 0 + how_often j xs
          → how_often j (cond t (i ∷ (x ∷ xs)) (x ∷ put_in spotAt i xs)) ≡ cond (eqb j i) 1 0 + (cond (eqb j x) 1 0 + how_often j xs)
      go true e = refl
      go false e = ap (λ (n : ℕ). cond (eqb j x) 1 0 + n) e ∙ omega arith

  -- ---- all of them

  pub any_sorted : (test : ℕ → Bool) (n : ℕ) → any test (sorted spotAt n) ≡ any_below n test
  any_sorted test zero = refl
  any_sorted test (suc n) = any_put test n (sorted spotAt n) ∙ ap (λ (t : Bool). test n || t) (any_sorted test n)

  pub often_sorted : (i n : ℕ) → how_often i (sorted spotAt n) ≡ cond (ltb i n) 1 0
  unfolding how_often
  often_sorted i zero = ap (λ (t : Bool). cond t 1 0) (sym (le-ltb i 0 zero-le))
  often_sorted i (suc n) = often_put i n (sorted spotAt n) ∙ ap (λ (m : ℕ). cond (eqb i n) 1 0 + m) (often_sorted i n) ∙ one_more (eqb i n) (ltb i n) refl refl
    where
      one_more : (here below : Bool) → eqb i n ≡ here → ltb i n ≡ below → cond here 1 0 + cond below 1 0 ≡ cond (ltb i (suc n)) 1 0
      one_more true true e l = absurd (omega (arith, eqb-true i n e, ltb-true i n l))
      one_more true false e l = ap (λ (t : Bool). cond t 1 0) (sym (lt-ltb i (suc n) (omega (arith, eqb-true i n e))))
      one_more false true e l = ap (λ (t : Bool). cond t 1 0) (sym (lt-ltb i (suc n) (omega (arith, ltb-true i n l))))
      one_more false false e l =
          let other = eqb-false i n e in
          ap (λ (t : Bool). cond t 1 0) (sym (le-ltb i (suc n) (omega (arith, ltb-false i n l, other))))

-- ---- the index

-- "The index names every line once and no other."
pub named_once : (lines : List Line) (i : ℕ) → how_often i (index_of lines).order ≡ cond (ltb i (length lines)) 1 0
unfolding index_of
named_once lines i = often_sorted (λ j. spot_of (line_of lines j)) i (length lines)

-- What passes among the lines that the index names is what passes among the lines.
pub any_named : (test : Line → Bool) (lines : List Line) → any (λ i. test (line_of lines i)) (index_of lines).order ≡ any test lines
unfolding index_of
any_named test lines =
    any_sorted (λ j. spot_of (line_of lines j)) (λ i. test (line_of lines i)) (length lines) ∙ any_places test _ lines
