-- Both are tested, and then each is inside the other or is not.
use mathlib.Core.Path.{◌≡◌, sym, ap, ap₂, ◌∙◌}
use mathlib.Core.Bool.{Bool, ◌&&◌, true, and-false}
use Rattle.std.specs.Prelude.{Ok}
use Rattle.range.specs.declared.Block.{Block}
use Rattle.range.specs.Range.{is_block, inside}
use Rattle.range.specs.Comparing.{lying, comparison}
use Rattle.range.proofs.Comparing.{compared, not_compared}
use Rattle.range.proofs.compare.Goals.{then-not-is_block-via-then-not-is_block, then-not-is_block-via-else-not-is_block+then-not-is_block-2}
use Rattle.range.proofs.compare.Goals as goal

pub returns-then-not-is_block : goal.returns-then-not-is_block
returns-then-not-is_block c =
    let a = c.args in
    elim c.then-not-is_block.branch [
      | then-not-is_block-via-then-not-is_block w ↦ sym (not_compared a.a a.b (ap (λ (t : Bool). t && is_block a.b) (sym w.if-not-is_block.ensures)))
      | then-not-is_block-via-else-not-is_block+then-not-is_block-2 w ↦
          sym (not_compared a.a a.b (ap (λ (t : Bool). is_block a.a && t) (sym w.if-not-is_block-2.ensures) ∙ and-false (is_block a.a)))
    ]

-- What two blocks are compared to, by what is known of each inside the other.
known : (a b : Block) {i j : Bool} → true ≡ is_block a → true ≡ is_block b → i ≡ inside a b → j ≡ inside b a → Ok (lying i j) ≡ comparison a b
known a b v w i j = sym (compared a b (sym v) (sym w) ∙ ap₂ (λ (x y : Bool). Ok (lying x y)) (sym i) (sym j))

pub returns-in-true-true : goal.returns-in-true-true
returns-in-true-true c = known _ _ c.if-not-is_block.ensures c.if-not-is_block-2.ensures c.in-true-true.ensures c.in-true-true.ensures'

pub returns-in-true-false : goal.returns-in-true-false
returns-in-true-false c = known _ _ c.if-not-is_block.ensures c.if-not-is_block-2.ensures c.in-true-false.ensures c.in-true-false.ensures'

pub returns-in-false-true : goal.returns-in-false-true
returns-in-false-true c = known _ _ c.if-not-is_block.ensures c.if-not-is_block-2.ensures c.in-false-true.ensures c.in-false-true.ensures'

pub returns-in-false-false : goal.returns-in-false-false
returns-in-false-false c = known _ _ c.if-not-is_block.ensures c.if-not-is_block-2.ensures c.in-false-false.ensures c.in-false-false.ensures'
