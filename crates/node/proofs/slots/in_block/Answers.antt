-- The block is one, so the answer is not a refusal.
use mathlib.Core.Path.{◌≡◌, refl, sym, ◌∙◌}
use mathlib.Core.Bool.{Bool, false}
use Rattle.std.specs.Prelude.{Result, Ok, Err}
use Rattle.std.specs.Result.{result_unwrap_or}
use Rattle.basics.specs.declared.Refusal.{Refusal}
use Rattle.basics.specs.Refusals.{in_numbers, told_or}
use Rattle.range.proofs.Laws.{answer_says}
use Rattle.node.proofs.slots.in_block.Goals as goal

or_no : (r : Result Bool Refusal) → result_unwrap_or r false ≡ (told_or false (in_numbers r)).value
or_no (Ok x) = refl
or_no (Err k) = refl

pub returns : goal.returns
returns c = c.unwrap_or.ensures ∙ or_no c.holds.result ∙ sym (answer_says c.args.block c.args.e c.holds.result c.holds.result c.requires c.holds.ensures refl)
