-- The sorted order is the one that agrees, and the test is whether the numbers are the sorted ones.
use Prim.Native.Nat.{ℕ, zero, suc, ◌≤◌, ◌<◌}
use mathlib.Core.Path.{◌≡◌, refl, sym, ap, ap₂, ◌∙◌}
use mathlib.Core.Bool.{Bool, true, false, cond, not, ◌&&◌, false≢true, true≢false}
use mathlib.Core.Logic.{inl, inr}
use mathlib.Core.List.{List, [], ◌∷◌}
use native.Mathlib.Nat.{le_refl}
use native.Mathlib.Omega.{arith}
use borrow.Author.Tests.{eqb-true, eq-eqb}
use lib.Dec.{eqb, ltb}
use lib.ListN.{get_or}
use lib.Seq.{ext_get_or}
use Rattle.basics.specs.Lists.{Among, each}
use Rattle.basics.proofs.Bools.{both}
use Rattle.basics.proofs.Each.{each_length, each_at}
use Rattle.index_rules.specs.Index.{put_in, sorted}
use Rattle.index_rules.specs.Agreeing.{Agrees, disagrees, same_numbers}
use Rattle.index_rules.proofs.Order.{only_one, agrees_same}
use Rattle.index_rules.proofs.Testing.{test_agrees, agrees_test}
use Rattle.index_rules.proofs.Sorting.{length_sorted, sorted_below, agrees_at}

-- ---- the same numbers

pub same_numbers_lem : (xs ys : List ℕ) → same_numbers xs ys ≡ true → xs ≡ ys
unfolding same_numbers
same_numbers_lem [] [] e = refl
same_numbers_lem [] (y ∷ ys) e = absurd (false≢true e)
same_numbers_lem (x ∷ xs) [] e = absurd (false≢true e)
same_numbers_lem (x ∷ xs) (y ∷ ys) e =
    let parts = both (eqb x y) (same_numbers xs ys) e in
    ap₂ (λ (z : ℕ) (zs : List ℕ). z ∷ zs) (eqb-true x y parts.0) (same_numbers_lem xs ys parts.1)

pub same_refl : (xs : List ℕ) → same_numbers xs xs ≡ true
unfolding same_numbers
same_refl [] = refl
same_refl (x ∷ xs) = ap₂ (λ (s t : Bool). s && t) (eq-eqb x x refl) (same_refl xs)

-- ---- agreeing and sorted

module _ (spotAt : ℕ → ℕ) (n : ℕ) (small : n ≤ 256) (at : ℕ → ℕ) where
  pub agrees_sorted : Agrees spotAt n at → each n at ≡ sorted spotAt n
  agrees_sorted a =
      ext_get_or 0 (each n at) (sorted spotAt n) (each_length n at ∙ sym (length_sorted spotAt n))
      (λ i l. let k : i < n = omega (arith, l, each_length n at) in each_at n at 0 i k ∙ only_one a (agrees_at spotAt n small) i k)

  pub sorted_agrees : each n at ≡ sorted spotAt n → Agrees spotAt n at
  sorted_agrees e = agrees_same (agrees_at spotAt n small) (λ i l. sym (ap (λ (js : List ℕ). get_or js i 0) e) ∙ each_at n at 0 i l)

  pub disagrees_sorted : disagrees spotAt n at ≡ not (same_numbers (each n at) (sorted spotAt n))
  disagrees_sorted = go (disagrees spotAt n at) (same_numbers (each n at) (sorted spotAt n)) refl refl
    where
      go : (s t : Bool) → disagrees spotAt n at ≡ s → same_numbers (each n at) (sorted spotAt n) ≡ t → s ≡ not t
      go true false d e = refl
      go false true d e = refl
      go true true d e =
          let a = sorted_agrees (same_numbers_lem (each n at) (sorted spotAt n) e) in
          absurd (true≢false (sym d ∙ agrees_test spotAt n at a))
      go false false d e =
          let same = agrees_sorted (test_agrees spotAt n at d) in
          absurd (true≢false (sym (same_refl (sorted spotAt n)) ∙ ap (λ (js : List ℕ). same_numbers js (sorted spotAt n)) (sym same) ∙ e))

-- ---- only the spots of numbers below n matter

put_same : (spotAt spotTo : ℕ → ℕ) (i : ℕ) (js : List ℕ) → spotAt i ≡ spotTo i → ((p : ℕ) → Among p js → spotAt p ≡ spotTo p) → put_in spotAt i js ≡ put_in spotTo i js
put_same spotAt spotTo i [] e h = refl
put_same spotAt spotTo i (j ∷ js) e h =
    ap₂ (λ (t : Bool) (ks : List ℕ). cond t (i ∷ (j ∷ js)) (j ∷ ks)) (ap₂ ltb e (h j (inl refl))) (put_same spotAt spotTo i js e (λ p there. h p (inr there)))

pub sorted_same : (spotAt spotTo : ℕ → ℕ) (n : ℕ) → ((p : ℕ) → p < n → spotAt p ≡ spotTo p) → sorted spotAt n ≡ sorted spotTo n
sorted_same spotAt spotTo zero h = refl
sorted_same spotAt spotTo (suc n) h =
    put_same spotAt spotTo n (sorted spotAt n) (h n (le_refl (suc n))) (λ p there. h p (omega (arith, sorted_below spotAt n p there)))
    ∙ ap (put_in spotTo n) (sorted_same spotAt spotTo n (λ p l. h p (omega arith)))
