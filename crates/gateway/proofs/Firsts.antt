-- The first n of a list that is made place by place: one more of them, and what holds of one of them.
use Prim.Native.Nat.{ℕ, zero, suc, ◌+◌, ◌<◌}
use mathlib.Core.Path.{◌≡◌, refl, sym, ap, ◌∙◌}
use mathlib.Core.Logic.{⊎_elim}
use mathlib.Core.Bool.{Bool, true, false, cond, ◌||◌, or-false, or-true, true≢false}
use mathlib.Core.List.{[], ◌∷◌, ◌++◌, append-nil}
use native.Mathlib.Nat.{eq-or-lt_of_le, le_of_suc-le-suc, not-suc-le-zero}
use native.Mathlib.Numerals.{add-one}
use Rattle.basics.specs.Lists.{any, each, without}
use Rattle.basics.proofs.Lists.{any_append, without_append}

module _ {A : Type 0} where
  pub no_places : (at : ℕ → A) → each 0 at ≡ []
  unfolding each
  no_places at = refl

  pub one_more : (n : ℕ) (at : ℕ → A) → each (n + 1) at ≡ each n at ++ (at n ∷ [])
  unfolding each
  one_more n at = ap (λ (k : ℕ). each k at) (add-one n)

  pub any_more : (test : A → Bool) (n : ℕ) (at : ℕ → A) → any test (each (n + 1) at) ≡ (any test (each n at) || test (at n))
  any_more test n at =
      ap (any test) (one_more n at)
      ∙ any_append test (each n at) (at n ∷ [])
      ∙ ap (λ (t : Bool). any test (each n at) || t) (or-false (test (at n)))

  -- One more that does not pass, and one that does.
  pub not_more : (test : A → Bool) (n : ℕ) (at : ℕ → A) → test (at n) ≡ false → any test (each (n + 1) at) ≡ any test (each n at)
  not_more test n at e = any_more test n at ∙ ap (λ (t : Bool). any test (each n at) || t) e ∙ or-false (any test (each n at))

  pub now_more : (test : A → Bool) (n : ℕ) (at : ℕ → A) → test (at n) ≡ true → any test (each (n + 1) at) ≡ true
  now_more test n at e = any_more test n at ∙ ap (λ (t : Bool). any test (each n at) || t) e ∙ or-true (any test (each n at))

  without_more : (test : A → Bool) (n : ℕ) (at : ℕ → A)
      → without test (each (n + 1) at) ≡ without test (each n at) ++ cond (test (at n)) [] (at n ∷ [])
  without_more test n at = ap (without test) (one_more n at) ∙ without_append test (each n at) (at n ∷ [])

  pub left_out : (test : A → Bool) (n : ℕ) (at : ℕ → A) → test (at n) ≡ true → without test (each (n + 1) at) ≡ without test (each n at)
  left_out test n at e =
      let rest = without test (each n at) in
      without_more test n at ∙ ap (λ (t : Bool). rest ++ cond t [] (at n ∷ [])) e ∙ append-nil rest

  pub kept_on : (test : A → Bool) (n : ℕ) (at : ℕ → A)
      → test (at n) ≡ false
      → without test (each (n + 1) at) ≡ without test (each n at) ++ (at n ∷ [])
  kept_on test n at e = without_more test n at ∙ ap (λ (t : Bool). without test (each n at) ++ cond t [] (at n ∷ [])) e

  -- ---- one of them

  pub any_at : (test : A → Bool) (n : ℕ) (at : ℕ → A) (i : ℕ) → i < n → test (at i) ≡ true → any test (each n at) ≡ true
  unfolding each
  any_at test zero at i l t = absurd (not-suc-le-zero l)
  any_at test (suc n) at i l t =
      any_append test (each n at) (at n ∷ [])
      ∙ ⊎_elim
      (λ e. let here : test (at n) ≡ true = sym (ap (λ (k : ℕ). test (at k)) e) ∙ t in rw here (or-true (any test (each n at))))
      (λ k. let here = any_at test n at i k t in rw here)
      (eq-or-lt_of_le (le_of_suc-le-suc l))

  pub none_at : (test : A → Bool) (n : ℕ) (at : ℕ → A) (i : ℕ) → i < n → any test (each n at) ≡ false → test (at i) ≡ false
  none_at test n at i l none = go (test (at i)) refl
    where
      go : (y : Bool) → test (at i) ≡ y → test (at i) ≡ false
      go true e = absurd (true≢false (sym (any_at test n at i l e) ∙ none))
      go false e = e
