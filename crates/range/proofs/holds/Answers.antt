-- An event is held where its bits above the low k are the start; where they are not, the block is tested to tell no from no block.
use mathlib.Core.Path.{◌≡◌, sym, ap, ◌∙◌}
use mathlib.Core.Bool.{true}
use native.Mathlib.Omega.{arith}
use borrow.Author.Tests.{eq-eqb, ne_eqb}
use Rattle.range.specs.Range.{is_block}
use Rattle.basics.specs.Refusals.{told}
use Rattle.range.proofs.Laws.{block_too_wide, prefix_block, in_block_above, holds_told_lem, holds_refused}
use Rattle.range.proofs.holds.Goals as goal

pub returns-then-b-gt64 : goal.returns-then-b-gt64
returns-then-b-gt64 c = sym (holds_refused c.args.b c.args.e (block_too_wide c.args.b (omega (arith, c.if-b-gt64.true))))

pub returns-then-prefix-b : goal.returns-then-prefix-b
returns-then-prefix-b c =
    let a = c.args in
    let s = sym c.prefix.ensures ∙ c.if-prefix-b.true in
    let v : is_block a.b ≡ true = prefix_block a.b a.e c.if-b-gt64.false s in
    sym (holds_told_lem a.b a.e v ∙ ap told (in_block_above a.b a.e v ∙ eq-eqb _ _ s))

pub returns-then-is_block : goal.returns-then-is_block
returns-then-is_block c =
    let a = c.args in
    let v : is_block a.b ≡ true = sym c.is_block.ensures ∙ c.if-is_block.true in
    sym (holds_told_lem a.b a.e v ∙ ap told (in_block_above a.b a.e v ∙ ne_eqb _ _ (λ s. c.if-prefix-b.false (c.prefix.ensures ∙ s))))

pub returns-else-is_block : goal.returns-else-is_block
returns-else-is_block c = sym (holds_refused c.args.b c.args.e (sym c.is_block.ensures ∙ c.if-is_block.false))
