use mathlib.Core.Path.{◌≡◌, refl, sym, ◌∙◌}
use native.Mathlib.Omega.{arith}
use borrow.Author.Tests.{eq-eqb, ne_eqb}
use Rattle.std.specs.Prelude.{Ok}
use Rattle.range.specs.declared.Comparison.TheVariants.{Equal, FirstInside, SecondInside, Apart}
use Rattle.range.proofs.Comparing.{comparison_says}
use mathlib.Core.Bool.{true, false}
use mathlib.Core.List.{[], ◌∷◌}
use denote.Enum.Declared.{tag_of, declared}
use types.Run.{OneOf, miss}
use Rattle.range.specs.declared.Comparison.{Comparison}
use Rattle.range.specs.contracts.Comparison.{enum as comparisons}
use Rattle.range.proofs.Comparing.{first_in}
use Rattle.gateway.proofs.lines.within.Goals as goal

-- The answers that the code takes for inside.
first_inside : (c : Comparison) → OneOf (0 ∷ 1 ∷ []) (tag_of (declared comparisons) c) → first_in (Ok c) ≡ true
first_inside Equal k = refl
first_inside FirstInside k = refl
first_inside SecondInside k = absurd (miss (0 ∷ 1 ∷ []) 2 tt k)
first_inside Apart k = absurd (miss (0 ∷ 1 ∷ []) 3 tt k)

first_outside : (c : Comparison) → OneOf (2 ∷ 3 ∷ []) (tag_of (declared comparisons) c) → first_in (Ok c) ≡ false
first_outside Equal k = absurd (miss (2 ∷ 3 ∷ []) 0 tt k)
first_outside FirstInside k = absurd (miss (2 ∷ 3 ∷ []) 1 tt k)
first_outside SecondInside k = refl
first_outside Apart k = refl

-- Port and node, then the blocks.
pub returns-then-a-b : goal.returns-then-a-b
returns-then-a-b c =
    let a = c.args in
    rw (ne_eqb a.a.port a.b.port c.if-a-b.true)

pub returns-then-a-b-2 : goal.returns-then-a-b-2
returns-then-a-b-2 c =
    let a = c.args in
    rw (eq-eqb a.a.port a.b.port c.if-a-b.false, ne_eqb a.a.node a.b.node (λ e. omega (arith, e, c.if-a-b-2.true)))

pub returns-in-Ok-Equal : goal.returns-in-Ok-Equal
returns-in-Ok-Equal c =
    let a = c.args in
    rw (eq-eqb a.a.port a.b.port c.if-a-b.false, eq-eqb a.a.node a.b.node (omega (arith, c.if-a-b-2.false)))
    (sym (comparison_says a.a.block a.b.block c.compare.result _ c.requires.0 c.requires.1 c.compare.ensures c.in-Ok-Equal.is ∙ first_inside c.in-Ok-Equal.field-0 c.in-Ok-Equal.in-Ok-Equal-own.keys1))

pub returns-in_default : goal.returns-in_default
returns-in_default c =
    let a = c.args in
    rw (eq-eqb a.a.port a.b.port c.if-a-b.false, eq-eqb a.a.node a.b.node (omega (arith, c.if-a-b-2.false)))
    (sym (comparison_says a.a.block a.b.block c.compare.result _ c.requires.0 c.requires.1 c.compare.ensures c.in_default.matches-arg-1-given.1 ∙ first_outside _ c.in_default.in_default-own.keys2))

pub returns-in_default-2 : goal.returns-in_default-2
returns-in_default-2 c =
    let a = c.args in
    rw (eq-eqb a.a.port a.b.port c.if-a-b.false, eq-eqb a.a.node a.b.node (omega (arith, c.if-a-b-2.false))) (sym (comparison_says a.a.block a.b.block c.compare.result _ c.requires.0 c.requires.1 c.compare.ensures c.in_default.is))
