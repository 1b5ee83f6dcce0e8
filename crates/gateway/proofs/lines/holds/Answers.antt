-- Nothing is refused of a block.
use mathlib.Core.Path.{◌≡◌, refl, sym, ◌∙◌}
use mathlib.Core.Bool.{Bool, false}
use Rattle.std.specs.Prelude.{Result, Ok, Err}
use Rattle.std.specs.Result.{result_unwrap_or}
use Rattle.basics.specs.declared.Refusal.{Refusal}
use Rattle.basics.specs.Refusals.{in_numbers, told_or}
use Rattle.range.proofs.Laws.{answer_says}
use Rattle.gateway.proofs.lines.holds.Goals as goal

told_value : (r : Result Bool Refusal) → result_unwrap_or r false ≡ (told_or false (in_numbers r)).value
told_value (Ok x) = refl
told_value (Err n) = refl

pub returns : goal.returns
returns c = c.unwrap_or.ensures ∙ told_value c.holds.result ∙ sym (answer_says c.args.block c.args.e c.holds.result c.holds.result c.requires c.holds.ensures refl)
