-- R4: refusal 14 is given exactly when document 01 says.
use Prim.Native.Nat.{ℕ, ◌%◌, ◌^◌}
use mathlib.Core.Path.{◌≡◌, refl, ap}
use mathlib.Core.Logic.Iff
use mathlib.Core.Logic.{◌↔◌, ◌⊎◌, inl, inr, ⊎_elim}
use mathlib.Core.Bool.{Bool, true, false, cond, ◌&&◌, not, true≢false}
use native.Mathlib.Omega.{arith}
use borrow.Author.Tests.{not-false, eqb-true, eqb-false, eq-eqb, ne_eqb, leb-false, lt-leb}
use lib.Dec.{leb, eqb}
use Rattle.range.specs.declared.Block.{Block}
use Rattle.range.specs.Range.{is_block, in_block, has_number, number_of}
use Rattle.basics.specs.Refusals.{told, refused}
use Rattle.range.specs.Answer.{number_told, holds_told, Barred, Unnumbered}

-- A test that is not passed is answered by 14, and nothing else is.
given_when : {A : Type 0} (t : Bool) (x none : A) → ((cond t (told x) (refused 14 none)).refusal ≡ 14) ↔ (t ≡ false)
given_when true x none = (λ e. let z : ⊥ = omega (arith, e) in absurd z, λ e. absurd (true≢false e))
given_when false x none = (λ _. refl, λ _. refl)

-- Two tests are not both passed where the one or the other is not.
pub either_fails : (p q : Bool) {A B : Type 0} → (p ≡ false) ↔ A → (q ≡ false) ↔ B → ((p && q) ≡ false) ↔ (A ⊎ B)
either_fails true q f g = (λ e. inr (g.0 e), ⊎_elim (λ a. absurd (true≢false (f.1 a))) g.1)
either_fails false q f g = (λ _. inl (f.0 refl), λ _. refl)

pub barred_exactly : (b : Block) → (is_block b ≡ false) ↔ Barred b
unfolding is_block
barred_exactly b =
    either_fails (leb b.k 64) (eqb (b.start % 2 ^ b.k) 0) (leb-false b.k 64, lt-leb b.k 64)
    (eqb-false (b.start % 2 ^ b.k) 0, ne_eqb (b.start % 2 ^ b.k) 0)

pub number_14 : (b : Block) → ((number_told b).refusal ≡ 14) ↔ Unnumbered b
unfolding number_told has_number
number_14 b =
    Iff.trans (given_when (has_number b) (number_of b) 0)
    (either_fails (not (eqb b.k 0)) (is_block b) (λ e. eqb-true b.k 0 (not-false (eqb b.k 0) e), λ e. ap not (eq-eqb b.k 0 e))
    (barred_exactly b))

pub holds_14 : (b : Block) (e : ℕ) → ((holds_told b e).refusal ≡ 14) ↔ Barred b
unfolding holds_told
holds_14 b e = Iff.trans (given_when (is_block b) (in_block b e) false) (barred_exactly b)
