-- A list made place by place, whole and while a loop writes it.
use Prim.Native.Nat.{ℕ, zero, suc, ◌+◌, ◌≤◌, ◌<◌}
use mathlib.Core.Path.{◌≡◌, refl, sym, ap, ap₂, ◌∙◌}
use mathlib.Core.Logic.{⊎_elim}
use mathlib.Core.Bool.{Bool, true, false}
use mathlib.Core.List.{List, [], ◌∷◌, ◌++◌, append-nil}
use native.Mathlib.Nat.{le_refl, le_trans, le-suc, le_of_suc-le-suc, not-suc-le-zero, eq-or-lt_of_le}
use native.Mathlib.Numerals.{add-one}
use native.Mathlib.Omega.{arith}
use borrow.Author.Tests.{leb-true, leb-false}
use lib.Dec.{leb}
use lib.ListN.{length, get_or, set, drop, length-append, get_or-append, get_or-eq_default}
use lib.Seq.{drop-cons, drop-length, append_snoc, set_at, get_or_at}
use Rattle.basics.specs.Lists.{each}

module _ {A : Type 0} where
  pub each_length : (n : ℕ) (f : ℕ → A) → length (each n f) ≡ n
  unfolding each
  each_length zero f = refl
  each_length (suc n) f = length-append (each n f) (f n ∷ []) ∙ ap (λ (k : ℕ). k + 1) (each_length n f) ∙ add-one n

  pub each_same : (n : ℕ) (f g : ℕ → A) → ((i : ℕ) → i < n → f i ≡ g i) → each n f ≡ each n g
  unfolding each
  each_same zero f g h = refl
  each_same (suc n) f g h =
      ap₂ (λ (front : List A) (x : A). front ++ (x ∷ [])) (each_same n f g (λ i l. h i (le_trans l (le-suc n)))) (h n (le_refl (suc n)))

  pub each_at : (n : ℕ) (f : ℕ → A) (d : A) (i : ℕ) → i < n → get_or (each n f) i d ≡ f i
  unfolding each
  each_at zero f d i h = absurd (not-suc-le-zero h)
  each_at (suc n) f d i h =
      ⊎_elim (λ e. get_or_at (each n f) (f n) [] d i (each_length n f ∙ sym e) ∙ ap f (sym e))
      (λ l. get_or-append (each n f) (f n ∷ []) d i (omega (arith, l, each_length n f)) ∙ each_at n f d i l)
      (eq-or-lt_of_le (le_of_suc-le-suc h))

  -- What stands at a place and is not what stands where there is none is the place's own.
  pub each_there : (n : ℕ) (f : ℕ → A) (d x : A) (i : ℕ) → (x ≡ d → ⊥) → get_or (each n f) i d ≡ x → f i ≡ x
  each_there n f d x i other h = go (leb n i) refl
    where
      go : (t : Bool) → leb n i ≡ t → f i ≡ x
      go true e = absurd (other (sym h ∙ get_or-eq_default (each n f) d {n = i} (omega (arith, leb-true n i e, each_length n f))))
      go false e = sym (each_at n f d i (leb-false n i e)) ∙ h

  -- ---- while a loop writes it: the first i are new, the rest as they were

  pub each_none : (f : ℕ → A) (xs : List A) → xs ≡ each 0 f ++ drop 0 xs
  unfolding each
  each_none f xs = refl

  pub each_all : (f : ℕ → A) (i : ℕ) (xs now : List A) → now ≡ each i f ++ drop i xs → i ≡ length xs → now ≡ each (length xs) f
  each_all f i xs now e s =
      e ∙ ap (λ (k : ℕ). each k f ++ drop k xs) s ∙ ap (λ (r : List A). each (length xs) f ++ r) (drop-length xs) ∙ append-nil (each (length xs) f)

  module _ (d : A) (f : ℕ → A) (i : ℕ) (xs now : List A) (e : now ≡ each i f ++ drop i xs) (h : i < length xs) where
    split : now ≡ each i f ++ (get_or xs i d ∷ drop (suc i) xs)
    split = e ∙ ap (λ (r : List A). each i f ++ r) (drop-cons xs i d h)

    -- What stands at i is still the old one.
    pub each_old : get_or now i d ≡ get_or xs i d
    each_old = ap (λ (m : List A). get_or m i d) split ∙ get_or_at (each i f) (get_or xs i d) (drop (suc i) xs) d i (each_length i f)

    pub each_more : (v : A) → v ≡ f i → set now i v ≡ each (i + 1) f ++ drop (i + 1) xs
    unfolding each
    each_more v s =
        ap₂ (λ (m : List A) (x : A). set m i x) split s
        ∙ set_at (each i f) (get_or xs i d) (drop (suc i) xs) (f i) i (each_length i f)
        ∙ sym (append_snoc (each i f) (f i) (drop (suc i) xs))
        ∙ ap (λ (k : ℕ). each k f ++ drop k xs) (sym (add-one i))

-- Numbers of at most m, and 0 where there is none.
pub each_up_to : (n m : ℕ) (f : ℕ → ℕ) → ((i : ℕ) → f i ≤ m) → (i : ℕ) → get_or (each n f) i 0 ≤ m
each_up_to n m f h i = go (leb n i) refl
  where
    go : (t : Bool) → leb n i ≡ t → get_or (each n f) i 0 ≤ m
    go true e = let none = get_or-eq_default (each n f) 0 {n = i} (omega (arith, leb-true n i e, each_length n f)) in omega (arith, none)
    go false e = omega (arith, each_at n f 0 i (leb-false n i e), h i)
