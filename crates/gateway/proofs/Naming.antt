-- The first line that holds an event, as a loop over the places finds it.
use Prim.Native.Nat.{ℕ, zero, suc, ◌+◌, ◌<◌}
use mathlib.Core.Path.{◌≡◌, sym, ap, ◌∙◌, subst}
use mathlib.Core.Logic.{⊎_elim}
use mathlib.Core.Bool.{Bool, true, false, cond, ◌&&◌}
use mathlib.Core.List.{[], ◌∷◌, ◌++◌}
use native.Mathlib.Nat.{zero-add, eq-or-lt_of_le, le_of_suc-le-suc, not-suc-le-zero}
use borrow.Author.Tests.{eq-eqb, ne_eqb}
use lib.ListN.{length}
use Rattle.range.specs.Range.{in_block}
use Rattle.basics.specs.Lists.{each}
use Rattle.basics.proofs.Each.{each_length}
use Rattle.gateway_rules.specs.declared.Line.{Line}
use Rattle.gateway_rules.specs.Step.{line_holds}
use Rattle.gateway_rules.specs.Reasons.{holder, first_holding}
use Rattle.gateway_rules.proofs.Reasons.{named_before, none_before}
use Rattle.gateway.proofs.Firsts.{no_places, one_more}

module _ (p e : ℕ) (at : ℕ → Line) where
  pub named_nowhere : first_holding p e 0 (each 0 at) ≡ []
  unfolding first_holding
  named_nowhere = ap (first_holding p e 0) (no_places at)

  last_place : (n : ℕ) (t : Bool) → line_holds p e (at n) ≡ t → first_holding p e 0 (each n at) ≡ [] → first_holding p e 0 (each n at ++ (at n ∷ [])) ≡ cond t (holder n (at n) ∷ []) []
  unfolding first_holding
  last_place n t h none =
      none_before p e 0 (each n at) (at n ∷ []) none
      ∙ ap (λ (k : ℕ). first_holding p e k (at n ∷ [])) (zero-add (length (each n at)) ∙ each_length n at)
      ∙ ap (λ (b : Bool). cond b (holder n (at n) ∷ []) []) h

  first_at : (n i : ℕ) → i < n → first_holding p e 0 (each i at) ≡ [] → line_holds p e (at i) ≡ true → first_holding p e 0 (each n at) ≡ holder i (at i) ∷ []
  unfolding each
  first_at zero i l none h = absurd (not-suc-le-zero l)
  first_at (suc n) i l none h =
      ⊎_elim (λ s. subst (λ (k : ℕ). first_holding p e 0 (each k at ++ (at k ∷ [])) ≡ holder i (at i) ∷ []) s (last_place i true h none))
      (λ k. named_before p e 0 (each n at) (at n ∷ []) (first_at n i k none h))
      (eq-or-lt_of_le (le_of_suc-le-suc l))

  module _ (i : ℕ) {l : Line} (taken : l ≡ at i) (none : first_holding p e 0 (each i at) ≡ []) where
    -- One more place, whose line does not hold it.
    pub passed_over : line_holds p e l ≡ false → first_holding p e 0 (each (i + 1) at) ≡ []
    passed_over h = ap (first_holding p e 0) (one_more i at) ∙ last_place i false (sym (ap (line_holds p e) taken) ∙ h) none

    -- The first that does, whatever stands behind it.
    pub named_at : (n : ℕ) → i < n → line_holds p e l ≡ true → first_holding p e 0 (each n at) ≡ holder i l ∷ []
    named_at n b h = first_at n i b none (sym (ap (line_holds p e) taken) ∙ h) ∙ ap (λ (x : Line). holder i x ∷ []) (sym taken)

-- ---- a line by the code's tests

pub at_another_port : (p e : ℕ) (l : Line) → (l.port ≡ p → ⊥) → line_holds p e l ≡ false
at_another_port p e l h = ap (λ (t : Bool). t && in_block l.block e) (ne_eqb l.port p h)

pub at_this_port : (p e : ℕ) (l : Line) {t : Bool} → l.port ≡ p → in_block l.block e ≡ t → line_holds p e l ≡ t
at_this_port p e l h b = ap (λ (t : Bool). t && in_block l.block e) (eq-eqb l.port p h) ∙ b
