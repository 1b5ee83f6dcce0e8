-- The first n numbers, put in one after another: all below n, and rising.
use Prim.Native.Nat.{ℕ, zero, suc, ◌≤◌, ◌<◌}
use mathlib.Core.Path.{◌≡◌, refl, sym, ap, ◌∙◌, subst}
use mathlib.Core.Logic.{◌⊎◌, inl, inr, ⊎_elim}
use mathlib.Core.Bool.{Bool, true, false, cond}
use mathlib.Core.List.{List, [], ◌∷◌}
use native.Mathlib.Nat.{le_of_suc-le-suc, not-suc-le-zero}
use native.Mathlib.Numerals.{add-one}
use native.Mathlib.Omega.{arith}
use borrow.Author.Tests.{ltb-true, ltb-false}
use lib.Dec.{ltb}
use lib.ListN.{length, get_or}
use Rattle.basics.specs.Lists.{Among}
use Rattle.index_rules.specs.Index.{put_in, sorted}
use Rattle.index_rules.specs.Agreeing.{key, Agrees}

-- ---- one put in

module _ (spotAt : ℕ → ℕ) (i : ℕ) where
  length_put : (js : List ℕ) → length (put_in spotAt i js) ≡ suc (length js)
  length_put [] = refl
  length_put (j ∷ js) = go (ltb (spotAt i) (spotAt j)) (length_put js)
    where
      go : (t : Bool) → length (put_in spotAt i js) ≡ suc (length js) → length (cond t (i ∷ (j ∷ js)) (j ∷ put_in spotAt i js)) ≡ suc (suc (length js))
      go true rest = refl
      go false rest = ap suc rest

  among_put_in : (js : List ℕ) (p : ℕ) → Among p (put_in spotAt i js) → (p ≡ i) ⊎ Among p js
  among_put_in [] p there = there
  among_put_in (j ∷ js) p there = go (ltb (spotAt i) (spotAt j)) (among_put_in js p) there
    where
      go : (t : Bool) → (Among p (put_in spotAt i js) → (p ≡ i) ⊎ Among p js) → Among p (cond t (i ∷ (j ∷ js)) (j ∷ put_in spotAt i js)) → (p ≡ i) ⊎ Among p (j ∷ js)
      go true rest there = there
      go false rest (inl e) = inr (inl e)
      go false rest (inr there) = ⊎_elim inl (λ h. inr (inr h)) (rest there)

-- Each number stands before all behind it.
abbrev Rising : (ℕ → ℕ) → List ℕ → Type 0
Rising spotAt [] = Unit
Rising spotAt (j ∷ js) = ((p : ℕ) → Among p js → key spotAt j < key spotAt p) × Rising spotAt js

-- A number larger than all that are there.
put_rising : (spotAt : ℕ → ℕ) (i : ℕ) → i < 256 → (js : List ℕ) → ((p : ℕ) → Among p js → p < i) → Rising spotAt js → Rising spotAt (put_in spotAt i js)
put_rising spotAt i small [] below up = ((λ p there. absurd there), tt)
put_rising spotAt i small (j ∷ js) below up =
    go (ltb (spotAt i) (spotAt j)) refl (put_rising spotAt i small js (λ p there. below p (inr there)) up.1)
  where
    go : (t : Bool) → ltb (spotAt i) (spotAt j) ≡ t → Rising spotAt (put_in spotAt i js) → Rising spotAt (cond t (i ∷ (j ∷ js)) (j ∷ put_in spotAt i js))
    go true e rest =
        let first : key spotAt i < key spotAt j = omega (arith, ltb-true (spotAt i) (spotAt j) e) in
        ((λ p there. ⊎_elim (λ s. omega (arith, first, ap (key spotAt) s)) (λ h. omega (arith, first, up.0 p h)) there), up)
    go false e rest =
        let last : key spotAt j < key spotAt i = omega (arith, ltb-false (spotAt i) (spotAt j) e, below j (inl refl)) in
        ((λ p there. ⊎_elim (λ s. omega (arith, last, ap (key spotAt) s)) (up.0 p) (among_put_in spotAt i js p there)), rest)

-- ---- all put in

pub length_sorted : (spotAt : ℕ → ℕ) (n : ℕ) → length (sorted spotAt n) ≡ n
length_sorted spotAt zero = refl
length_sorted spotAt (suc n) = length_put spotAt n (sorted spotAt n) ∙ ap suc (length_sorted spotAt n)

pub sorted_below : (spotAt : ℕ → ℕ) (n p : ℕ) → Among p (sorted spotAt n) → p < n
sorted_below spotAt zero p there = absurd there
sorted_below spotAt (suc n) p there =
    ⊎_elim (λ e. omega (arith, e)) (λ h. omega (arith, sorted_below spotAt n p h)) (among_put_in spotAt n (sorted spotAt n) p there)

sorted_rising : (spotAt : ℕ → ℕ) (n : ℕ) → n ≤ 256 → Rising spotAt (sorted spotAt n)
sorted_rising spotAt zero small = tt
sorted_rising spotAt (suc n) small = put_rising spotAt n small (sorted spotAt n) (sorted_below spotAt n) (sorted_rising spotAt n (omega arith))

-- ---- place by place

among_at : (js : List ℕ) (i : ℕ) → i < length js → Among (get_or js i 0) js
among_at [] i l = absurd (not-suc-le-zero l)
among_at (j ∷ js) zero l = inl refl
among_at (j ∷ js) (suc i) l = inr (among_at js i (le_of_suc-le-suc l))

rising_at : (spotAt : ℕ → ℕ) (js : List ℕ) → Rising spotAt js → (i : ℕ) → suc i < length js → key spotAt (get_or js i 0) < key spotAt (get_or js (suc i) 0)
rising_at spotAt [] up i l = absurd (not-suc-le-zero l)
rising_at spotAt (j ∷ js) up zero l = up.0 (get_or js 0 0) (among_at js 0 (le_of_suc-le-suc l))
rising_at spotAt (j ∷ js) up (suc i) l = rising_at spotAt js up.1 i (le_of_suc-le-suc l)

pub agrees_at : (spotAt : ℕ → ℕ) (n : ℕ) → n ≤ 256 → Agrees spotAt n (λ i. get_or (sorted spotAt n) i 0)
agrees_at spotAt n small = record {
  below = λ i l. sorted_below spotAt n (get_or js i 0) (among_at js i (omega (arith, length_sorted spotAt n)));
  rising = λ i l.
      subst (λ (k : ℕ). key spotAt (get_or js i 0) < key spotAt (get_or js k 0)) (sym (add-one i))
      (rising_at spotAt js (sorted_rising spotAt n small) i (omega (arith, length_sorted spotAt n)));
}
  where
    js : List ℕ
    js = sorted spotAt n
