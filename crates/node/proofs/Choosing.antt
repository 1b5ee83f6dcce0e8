-- The slots that pass a test, counted up slot by slot.
use Prim.Native.Nat.{ℕ, zero, suc, ◌+◌, ◌≤◌}
use mathlib.Core.Path.{◌≡◌, refl, subst, sym, ◌∙◌}
use mathlib.Core.Logic.{⊎_elim}
use mathlib.Core.Bool.{Bool, true, false, cond}
use mathlib.Core.List.{[], ◌∷◌, ◌++◌, append-nil}
use native.Mathlib.Nat.{eq-or-lt_of_le, le_of_suc-le-suc, le_refl, le_trans}
use native.Mathlib.Numerals.{add-one}
use native.Mathlib.Omega.{arith}
use lib.ListN.{length, length-append}
use Rattle.node_rules.specs.Hearing.{chosen}
use Rattle.node_rules.proofs.Once.{chosen_few}

module _ (test : ℕ → Bool) where
  pub chosen_none : chosen 0 test ≡ []
  unfolding chosen
  chosen_none = refl

  more : (n : ℕ) (t : Bool) → test n ≡ t → chosen (n + 1) test ≡ chosen n test ++ cond t (n ∷ []) []
  unfolding chosen
  more n t e = rw (add-one n, e)

  pub chosen_passed : (n : ℕ) → test n ≡ false → chosen (n + 1) test ≡ chosen n test
  chosen_passed n e = more n false e ∙ append-nil (chosen n test)

  pub chosen_next : (n : ℕ) → test n ≡ true → chosen (n + 1) test ≡ chosen n test ++ (n ∷ [])
  chosen_next n e = more n true e

  -- More slots leave no fewer.
  pub chosen_longer : (m n : ℕ) → m ≤ n → length (chosen m test) ≤ length (chosen n test)
  unfolding chosen
  chosen_longer m zero h = le_trans (chosen_few m test) h
  chosen_longer m (suc n) h =
      ⊎_elim (λ e. subst (λ (k : ℕ). length (chosen k test) ≤ length (chosen (suc n) test)) (sym e) (le_refl (length (chosen (suc n) test))))
      (λ l. le_trans (chosen_longer m n (le_of_suc-le-suc l)) (omega (arith, length-append (chosen n test) (cond (test n) (n ∷ []) []))))
      (eq-or-lt_of_le h)
