-- A list by its parts: whether any passes, and what is left out of it.
use Prim.Native.Nat.{suc, ◌≤◌, zero-le, suc-le-suc}
use mathlib.Core.Path.{◌≡◌, refl, sym, ap, ◌∙◌}
use mathlib.Core.Bool.{Bool, true, false, cond, ◌||◌, or_assoc, false≢true}
use mathlib.Core.List.{List, [], ◌∷◌, ◌++◌}
use native.Mathlib.Nat.{le_trans, le-suc}
use native.Mathlib.Omega.{arith}
use lib.ListN.{length}
use Rattle.basics.specs.Lists.{any, without}
use Rattle.basics.proofs.Bools.{neither}

pub any_append : {A : Type 0} (test : A → Bool) (xs ys : List A) → any test (xs ++ ys) ≡ (any test xs || any test ys)
any_append test [] ys = refl
any_append test (x ∷ xs) ys = ap (λ (t : Bool). test x || t) (any_append test xs ys) ∙ sym (or_assoc (test x) (any test xs) (any test ys))

pub length_without : {A : Type 0} (test : A → Bool) (xs : List A) → length (without test xs) ≤ length xs
length_without test [] = zero-le
length_without test (x ∷ xs) = go (test x) (length_without test xs)
  where
    go : (t : Bool) → length (without test xs) ≤ length xs → length (cond t (without test xs) (x ∷ without test xs)) ≤ length (x ∷ xs)
    go true h = le_trans h (le-suc (length xs))
    go false h = suc-le-suc h

pub without_none : {A : Type 0} (test out : A → Bool) (xs : List A) → any test xs ≡ false → any test (without out xs) ≡ false
without_none test out [] h = refl
without_none test out (x ∷ xs) h = go (out x) (neither (test x) (any test xs) h) (without_none test out xs)
  where
    go : (t : Bool) → (test x ≡ false) × (any test xs ≡ false) → (any test xs ≡ false → any test (without out xs) ≡ false)
        → any test (cond t (without out xs) (x ∷ without out xs)) ≡ false
    go true h k = k h.1
    go false h k = rw h.0 (k h.1)

-- None of those that are left out stays.
pub none_stays : {A : Type 0} (test : A → Bool) (xs : List A) → any test (without test xs) ≡ false
none_stays test [] = refl
none_stays test (x ∷ xs) = go (test x) refl (none_stays test xs)
  where
    go : (t : Bool) → test x ≡ t → any test (without test xs) ≡ false → any test (cond t (without test xs) (x ∷ without test xs)) ≡ false
    go true e rest = rest
    go false e rest = rw e rest

pub without_append : {A : Type 0} (test : A → Bool) (xs ys : List A) → without test (xs ++ ys) ≡ without test xs ++ without test ys
without_append test [] ys = refl
without_append test (x ∷ xs) ys = go (test x) (without_append test xs ys)
  where
    go : (t : Bool) → without test (xs ++ ys) ≡ without test xs ++ without test ys
        → cond t (without test (xs ++ ys)) (x ∷ without test (xs ++ ys)) ≡ cond t (without test xs) (x ∷ without test xs) ++ without test ys
    go true e = e
    go false e = ap (λ (l : List _). x ∷ l) e

-- Where nothing passes, nothing is left out.
pub without_nothing : {A : Type 0} (out : A → Bool) (xs : List A) → any out xs ≡ false → without out xs ≡ xs
without_nothing out [] h = refl
without_nothing out (x ∷ xs) h =
    let parts = neither (out x) (any out xs) h in
    ap (λ (t : Bool). cond t (without out xs) (x ∷ without out xs)) parts.0 ∙ ap (λ (l : List _). x ∷ l) (without_nothing out xs parts.1)

-- Who is left out by both is left out by the second alone.
pub without_more : {A : Type 0} (out more : A → Bool) (xs : List A) → ((x : A) → out x ≡ true → more x ≡ true) → without more (without out xs) ≡ without more xs
without_more out more [] h = refl
without_more out more (x ∷ xs) h = go (out x) refl (without_more out more xs h)
  where
    go : (t : Bool) → out x ≡ t → without more (without out xs) ≡ without more xs
        → without more (cond t (without out xs) (x ∷ without out xs)) ≡ cond (more x) (without more xs) (x ∷ without more xs)
    go true e rest = rest ∙ sym (ap (λ (t : Bool). cond t (without more xs) (x ∷ without more xs)) (h x e))
    go false e rest = ap (λ (l : List _). cond (more x) l (x ∷ l)) rest

-- Where one is left out, fewer are left.
pub fewer_without : {A : Type 0} (out : A → Bool) (xs : List A) → any out xs ≡ true → suc (length (without out xs)) ≤ length xs
fewer_without out [] h = absurd (false≢true h)
fewer_without out (x ∷ xs) h = go (out x) refl (fewer_without out xs)
  where
    go : (t : Bool) → out x ≡ t → (any out xs ≡ true → suc (length (without out xs)) ≤ length xs)
        → suc (length (cond t (without out xs) (x ∷ without out xs))) ≤ length (x ∷ xs)
    go true e rest = omega (arith, length_without out xs)
    go false e rest = omega (arith, rest (sym (ap (λ (b : Bool). b || any out xs) e) ∙ h))

-- What was left out once is not there to be left out again.
pub without_again : {A : Type 0} (test : A → Bool) (xs : List A) → without test (without test xs) ≡ without test xs
without_again test xs = without_more test test xs (λ _ e. e)
