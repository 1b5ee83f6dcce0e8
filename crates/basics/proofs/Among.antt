-- What is there in a list: one that passes a test, one that is added, some that are left out.
use mathlib.Core.Path.{◌≡◌, refl, sym, ap, ◌∙◌}
use mathlib.Core.Logic.{◌⊎◌, inl, inr}
use mathlib.Core.Bool.{Bool, true, false, cond, ◌||◌, or-true, false≢true, true≢false}
use mathlib.Core.List.{List, [], ◌∷◌, ◌++◌}
use Rattle.basics.specs.Lists.{any, Among, without}
use Rattle.basics.proofs.Lists.{any_append}

module _ {A : Type 0} where
  -- ---- tests

  pub among_any : (test : A → Bool) (xs : List A) (x : A) → Among x xs → test x ≡ true → any test xs ≡ true
  among_any test [] x there t = absurd there
  among_any test (y ∷ ys) x (inl e) t = rw (sym (ap test e) ∙ t)
  among_any test (y ∷ ys) x (inr there) t = rw (among_any test ys x there t) (or-true (test y))

  pub record Found (test : A → Bool) (xs : List A) : Type 0 where
    pub one : A
    pub there : Among one xs
    pub passes : test one ≡ true

  pub any_found : (test : A → Bool) (xs : List A) → any test xs ≡ true → Found test xs
  any_found test [] h = absurd (false≢true h)
  any_found test (x ∷ xs) h = go (test x) refl (any_found test xs)
    where
      go : (t : Bool) → test x ≡ t → (any test xs ≡ true → Found test xs) → Found test (x ∷ xs)
      go true e later = record { one = x; there = inl refl; passes = e }
      go false e later =
          let f = later (sym (ap (λ (b : Bool). b || any test xs) e) ∙ h) in
          record { one = f.one; there = inr f.there; passes = f.passes }

  -- What passes one test passes another.
  pub any_passed : (test other : A → Bool) (xs : List A) → ((x : A) → test x ≡ true → other x ≡ true) → any test xs ≡ true → any other xs ≡ true
  any_passed test other xs h t = let f = any_found test xs t in among_any other xs f.one f.there (h f.one f.passes)

  -- ---- parts of a list

  pub among_put : (before later : List A) (x : A) → Among x (before ++ (x ∷ later))
  among_put [] later x = inl refl
  among_put (y ∷ before) later x = inr (among_put before later x)

  pub among_end : (xs : List A) (y x : A) → Among x (xs ++ (y ∷ [])) → Among x xs ⊎ (x ≡ y)
  among_end [] y x (inl e) = inr e
  among_end [] y x (inr none) = absurd none
  among_end (z ∷ xs) y x (inl e) = inl (inl e)
  among_end (z ∷ xs) y x (inr there) = go (among_end xs y x there)
    where
      go : Among x xs ⊎ (x ≡ y) → Among x (z ∷ xs) ⊎ (x ≡ y)
      go (inl h) = inl (inr h)
      go (inr e) = inr e

  -- ---- what is left out

  pub among_without : (out : A → Bool) (xs : List A) (x : A) → Among x (without out xs) → Among x xs × (out x ≡ false)
  among_without out [] x there = absurd there
  among_without out (y ∷ ys) x there = go (out y) refl (among_without out ys x) there
    where
      go : (t : Bool) → out y ≡ t → (Among x (without out ys) → Among x ys × (out x ≡ false)) → Among x (cond t (without out ys) (y ∷ without out ys)) → Among x (y ∷ ys) × (out x ≡ false)
      go true e rest h = let w = rest h in (inr w.0, w.1)
      go false e rest (inl f) = (inl f, ap out f ∙ e)
      go false e rest (inr h) = let w = rest h in (inr w.0, w.1)

  pub among_kept : (out : A → Bool) (xs : List A) (x : A) → Among x xs → out x ≡ false → Among x (without out xs)
  among_kept out [] x there e = absurd there
  among_kept out (y ∷ ys) x there e = go (out y) refl (λ h. among_kept out ys x h e) there
    where
      go : (t : Bool) → out y ≡ t → (Among x ys → Among x (without out ys)) → Among x (y ∷ ys) → Among x (cond t (without out ys) (y ∷ without out ys))
      go true f rest (inl same) = absurd (true≢false (sym (ap out same ∙ f) ∙ e))
      go true f rest (inr h) = rest h
      go false f rest (inl same) = inl same
      go false f rest (inr h) = inr (rest h)

  -- Where what passes is not left out, one that passes stays.
  pub any_stays : (test out : A → Bool) (xs : List A) → ((x : A) → test x ≡ true → out x ≡ false) → any test xs ≡ true → any test (without out xs) ≡ true
  any_stays test out xs h t =
      let f = any_found test xs t in
      among_any test (without out xs) f.one (among_kept out xs f.one f.there (h f.one f.passes)) f.passes

  -- Where one that is put at the end passes whenever one that is left out did, one that passes is there still.
  pub any_replaced : (test out : A → Bool) (xs : List A) (y : A) → ((x : A) → test x ≡ true → out x ≡ true → test y ≡ true)
      → any test xs ≡ true → any test (without out xs ++ (y ∷ [])) ≡ true
  any_replaced test out xs y h t = any_append test (without out xs) (y ∷ []) ∙ go (any_found test xs t)
    where
      go : Found test xs → (any test (without out xs) || any test (y ∷ [])) ≡ true
      go f = by_out (out f.one) refl
        where
          by_out : (b : Bool) → out f.one ≡ b → (any test (without out xs) || any test (y ∷ [])) ≡ true
          by_out true e = rw (h f.one f.passes e) (or-true (any test (without out xs)))
          by_out false e = rw (among_any test (without out xs) f.one (among_kept out xs f.one f.there e) f.passes)
