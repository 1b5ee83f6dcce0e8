-- Two tests together, and one test by another.
use mathlib.Core.Path.{◌≡◌, refl, sym, ◌∙◌}
use mathlib.Core.Bool.{Bool, true, false, not, ◌&&◌, ◌||◌, false≢true, true≢false}
use borrow.Author.Tests.{not-true, not-false}

pub same_truth : (p q : Bool) → (p ≡ true → q ≡ true) → (q ≡ true → p ≡ true) → p ≡ q
same_truth true q f g = sym (f refl)
same_truth false true f g = g refl
same_truth false false f g = refl

pub both : (p q : Bool) → (p && q) ≡ true → (p ≡ true) × (q ≡ true)
both true q e = (refl, e)
both false q e = absurd (false≢true e)

pub neither : (p q : Bool) → (p || q) ≡ false → (p ≡ false) × (q ≡ false)
neither true q e = absurd (true≢false e)
neither false q e = (refl, e)

-- A test that the code makes of an answer's opposite.
pub refuted : (t v : Bool) → not t ≡ true → t ≡ v → v ≡ false
refuted t v e h = sym h ∙ not-true t e

pub passed : (t v : Bool) → not t ≡ false → t ≡ v → v ≡ true
passed t v e h = sym h ∙ not-false t e
