-- How a line stands to those of the table, from what is known of them and back.
use mathlib.Core.Path.{◌≡◌, refl, sym, ap, ◌∙◌}
use mathlib.Core.Bool.{Bool, true, false, cond, and-false, true≢false}
use mathlib.Core.List.{List}
use borrow.Author.Tests.{ne_eqb}
use lib.Dec.{eqb}
use Rattle.gateway_rules.specs.declared.Line.{Line}
use Rattle.gateway_rules.specs.Step.{within, held_by, covered, holds_some}
use Rattle.gateway.specs.declared.lines.Standing.{Standing}
use Rattle.gateway.specs.declared.lines.Standing.TheVariants.{Covered, Holding, New}
use Rattle.gateway.specs.Answers.{stands_as}

module _ (lines : List Line) (l : Line) where
  pub stands_covered : covered lines l ≡ true → Covered ≡ stands_as lines l
  stands_covered c = rw c

  pub stands_holding : covered lines l ≡ false → holds_some lines l ≡ true → Holding ≡ stands_as lines l
  stands_holding c h = rw (c, h)

  pub stands_new : covered lines l ≡ false → holds_some lines l ≡ false → New ≡ stands_as lines l
  stands_new c h = rw (c, h)

-- A line of another node is neither inside it nor holds it.
pub other_node : (l x : Line) → (x.node ≡ l.node → ⊥) → (within l x ≡ false) × (held_by l x ≡ false)
other_node l x other = (rw (ne_eqb l.node x.node (λ e. other (sym e))) (and-false (eqb l.port x.port)), rw (ne_eqb x.node l.node other) (and-false (eqb x.port l.port)))

-- What the answer says.
abbrev pub is_covered : Standing → Bool
is_covered Covered = true
is_covered Holding = false
is_covered New = false

abbrev pub is_holding : Standing → Bool
is_holding Covered = false
is_holding Holding = true
is_holding New = false

covered_told : (c h : Bool) → is_covered (cond c Covered (cond h Holding New)) ≡ c
covered_told true h = refl
covered_told false true = refl
covered_told false false = refl

holding_told : (c h : Bool) → c ≡ false → is_holding (cond c Covered (cond h Holding New)) ≡ h
holding_told true h e = absurd (true≢false e)
holding_told false true e = refl
holding_told false false e = refl

pub standing_says : (lines : List Line) (l : Line) (r s : Standing) → r ≡ stands_as lines l → r ≡ s
    → (covered lines l ≡ is_covered s) × (covered lines l ≡ false → holds_some lines l ≡ is_holding s)
standing_says lines l r s h k = (
  sym (covered_told (covered lines l) (holds_some lines l)) ∙ ap is_covered (sym h ∙ k),
  λ c. sym (holding_told (covered lines l) (holds_some lines l) c) ∙ ap is_holding (sym h ∙ k),
)
