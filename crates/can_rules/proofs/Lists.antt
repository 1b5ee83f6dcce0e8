-- Lists: two tests one after the other, a list whose members are changed, and a list of numbers without repeats.
use Prim.Native.Nat.{ℕ, ◌<◌, suc-le-suc}
use mathlib.Core.Path.{◌≡◌, refl, sym, ap, ◌∙◌}
use mathlib.Core.Bool.{Bool, true, false, cond, ◌&&◌, ◌||◌, false≢true, or-false}
use mathlib.Core.List.{List, [], ◌∷◌, ◌++◌, map}
use borrow.Author.Tests.{eqb-false, ne_eqb}
use lib.Dec.{eqb}
use lib.ListN.{length}
use Rattle.basics.specs.Lists.{any, without}
use Rattle.basics.proofs.Bools.{neither}
use Rattle.basics.proofs.Lists.{any_append, length_without}
use Rattle.can_rules.specs.Aliases.{repeats}

-- The examples and the limits are checked before the laws: a wrong definition is refused there first, by a fact that is false.

module _ {A : Type 0} where
  -- A list of which nothing is left out is the list.
  pub all_stay : (out : A → Bool) (xs : List A) → any out xs ≡ false → without out xs ≡ xs
  all_stay out [] h = refl
  all_stay out (x ∷ xs) h = let k = neither (out x) (any out xs) h in rw k.0 (ap (λ (l : List A). x ∷ l) (all_stay out xs k.1))

  -- Two tests, one at least of which every member passes, leave nothing.
  pub none_left : (p q : A → Bool) → ((x : A) → (p x || q x) ≡ true) → (xs : List A) → without p (without q xs) ≡ []
  none_left p q all [] = refl
  none_left p q all (x ∷ xs) = go (q x) refl (none_left p q all xs)
    where
      go : (t : Bool) → q x ≡ t → without p (without q xs) ≡ [] → without p (cond t (without q xs) (x ∷ without q xs)) ≡ []
      go true e rest = rest
      go false e rest = let out : p x ≡ true = sym (or-false (p x)) ∙ ap (λ (t : Bool). p x || t) (sym e) ∙ all x in rw out rest

  -- Leaving out first what is left out later anyway changes nothing.
  pub left_out_before : (p q : A → Bool) → ((x : A) → q x ≡ true → p x ≡ true) → (xs : List A) → without p (without q xs) ≡ without p xs
  left_out_before p q less [] = refl
  left_out_before p q less (x ∷ xs) = go (q x) refl (left_out_before p q less xs)
    where
      go : (t : Bool) → q x ≡ t → without p (without q xs) ≡ without p xs → without p (cond t (without q xs) (x ∷ without q xs)) ≡ without p (x ∷ xs)
      go true e rest = rw (less x e) rest
      go false e rest = ap (λ (l : List A). cond (p x) l (x ∷ l)) rest

  -- A test that only members that stay can pass is passed by as many.
  pub passing_stay : (test out : A → Bool) → ((x : A) → out x ≡ true → test x ≡ false) → (xs : List A) → any test (without out xs) ≡ any test xs
  passing_stay test out never [] = refl
  passing_stay test out never (x ∷ xs) = go (out x) refl (passing_stay test out never xs)
    where
      go : (t : Bool) → out x ≡ t → any test (without out xs) ≡ any test xs → any test (cond t (without out xs) (x ∷ without out xs)) ≡ any test (x ∷ xs)
      go true e rest = rw (never x e) rest
      go false e rest = ap (λ (t : Bool). test x || t) rest

  -- Where one is left out the list is shorter.
  pub shorter : (out : A → Bool) (xs : List A) → any out xs ≡ true → length (without out xs) < length xs
  shorter out [] h = absurd (false≢true h)
  shorter out (x ∷ xs) h = go (out x) h (shorter out xs)
    where
      go : (t : Bool) → (t || any out xs) ≡ true → (any out xs ≡ true → length (without out xs) < length xs)
          → length (cond t (without out xs) (x ∷ without out xs)) < length (x ∷ xs)
      go true h later = suc-le-suc (length_without out xs)
      go false h later = suc-le-suc (later h)

  -- What is passed with another test is passed.
  pub any_first : (p q : A → Bool) (xs : List A) → any (λ x. p x && q x) xs ≡ true → any p xs ≡ true
  any_first p q [] h = h
  any_first p q (x ∷ xs) h = go (p x) (q x) h (any_first p q xs)
    where
      go : (s t : Bool) → ((s && t) || any (λ x. p x && q x) xs) ≡ true → (any (λ x. p x && q x) xs ≡ true → any p xs ≡ true) → (s || any p xs) ≡ true
      go true t h later = refl
      go false t h later = later h

  -- A member that is changed passes, or stays, as it did.
  pub without_map : (out : A → Bool) (f : A → A) → ((x : A) → out (f x) ≡ out x) → (xs : List A) → without out (map f xs) ≡ map f (without out xs)
  without_map out f same [] = refl
  without_map out f same (x ∷ xs) =
      ap (λ (s : Bool). cond s (without out (map f xs)) (f x ∷ without out (map f xs))) (same x) ∙ go (out x) (without_map out f same xs)
    where
      go : (t : Bool) → without out (map f xs) ≡ map f (without out xs)
          → cond t (without out (map f xs)) (f x ∷ without out (map f xs)) ≡ map f (cond t (without out xs) (x ∷ without out xs))
      go true e = e
      go false e = ap (λ (l : List A). f x ∷ l) e

  pub any_map : {B : Type 0} (test : B → Bool) (f : A → B) (xs : List A) → any test (map f xs) ≡ any (λ x. test (f x)) xs
  any_map test f [] = refl
  any_map test f (x ∷ xs) = ap (λ (t : Bool). test (f x) || t) (any_map test f xs)

-- A number more at the end.
pub repeats_end : (xs : List ℕ) (x : ℕ) → repeats xs ≡ false → any (λ y. eqb y x) xs ≡ false → repeats (xs ++ (x ∷ [])) ≡ false
repeats_end [] x once new = refl
repeats_end (y ∷ xs) x once new =
    let h = neither (any (λ z. eqb z y) xs) (repeats xs) once in
    let k = neither (eqb y x) (any (λ z. eqb z x) xs) new in
    let other : eqb x y ≡ false = ne_eqb x y (λ e. eqb-false y x k.0 (sym e)) in
    let front : any (λ z. eqb z y) (xs ++ (x ∷ [])) ≡ false = any_append (λ z. eqb z y) xs (x ∷ []) ∙ rw (h.0, other) in
    rw front (repeats_end xs x h.1 k.1)
