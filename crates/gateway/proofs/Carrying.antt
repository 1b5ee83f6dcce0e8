-- Lines that stay are found at their new numbers.
use Prim.Native.Nat.{ℕ, zero, suc, ◌+◌, ◌<◌}
use mathlib.Core.Path.{◌≡◌, refl, sym, ap, ap₂, ◌∙◌, subst}
use mathlib.Core.Logic.{⊎_elim}
use mathlib.Core.Bool.{Bool, true, false, cond}
use mathlib.Core.List.{List, [], ◌∷◌, ◌++◌}
use native.Mathlib.Nat.{eq-or-lt_of_le, le_of_suc-le-suc, not-suc-le-zero}
use native.Mathlib.Omega.{arith}
use lib.ListN.{length, get_or, length-append, get_or-append}
use lib.Seq.{get_or_at}
use Rattle.basics.specs.Lists.{each, without}
use Rattle.basics.proofs.Lists.{without_append}
use Rattle.basics.proofs.Each.{each_length, each_at}
use Rattle.index_rules.specs.Agreeing.{rank}
use Rattle.index_rules.proofs.Ranks.{rank_below}

module _ {A : Type 0} (test : A → Bool) (at : ℕ → A) where
  abbrev gone : ℕ → Bool
  gone p = test (at p)

  -- As many stay as are counted.
  length_left : (n : ℕ) → length (without test (each n at)) ≡ rank gone n
  unfolding each
  length_left zero = refl
  length_left (suc n) =
      ap length (without_append test (each n at) (at n ∷ []))
      ∙ length-append (without test (each n at)) (without test (at n ∷ []))
      ∙ ap₂ (λ (x y : ℕ). x + y) (length_left n) (go (test (at n)))
    where
      go : (t : Bool) → length (cond t [] (at n ∷ [])) ≡ cond t 0 1
      go true = refl
      go false = refl

  left_at : (d : A) (n p : ℕ) → p < n → test (at p) ≡ false → get_or (without test (each n at)) (rank gone p) d ≡ at p
  unfolding each
  left_at d zero p l e = absurd (not-suc-le-zero l)
  left_at d (suc n) p l e =
      ap (λ (xs : List A). get_or xs (rank gone p) d) (without_append test (each n at) (at n ∷ []))
      ∙ ⊎_elim
      (λ z. subst (λ (q : ℕ). get_or (without test (each n at) ++ without test (at n ∷ [])) (rank gone q) d ≡ at q) (sym z)
      (ap (λ (t : Bool). get_or (without test (each n at) ++ cond t [] (at n ∷ [])) (rank gone n) d) (sym (ap gone z) ∙ e)
      ∙ get_or_at (without test (each n at)) (at n) [] d (rank gone n) (length_left n)))
      (λ k. get_or-append (without test (each n at)) (without test (at n ∷ [])) d (rank gone p) (omega (arith, length_left n, rank_below gone p n e k)) ∙ left_at d n p k e)
      (eq-or-lt_of_le (le_of_suc-le-suc l))

  -- What a removal promises of a list says how many stay, and where each of them stands.
  module _ (n kept : ℕ) (to : ℕ → A) (e : each kept to ≡ without test (each n at)) where
    pub kept_count : kept ≡ rank gone n
    kept_count = sym (each_length kept to) ∙ ap length e ∙ length_left n

    pub carried : (p : ℕ) → p < n → test (at p) ≡ false → to (rank gone p) ≡ at p
    carried p l t =
        sym (each_at kept to (at p) (rank gone p) (omega (arith, kept_count, rank_below gone p n t l)))
        ∙ ap (λ (xs : List A). get_or xs (rank gone p) (at p)) e
        ∙ left_at (at p) n p l t
