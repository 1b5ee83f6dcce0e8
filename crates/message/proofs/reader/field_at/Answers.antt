-- A field of at most eight bytes is read only where its flag is set.
use mathlib.Core.Path.{sym, ap, ◌∙◌}
use mathlib.Core.Bool.{Bool}
use Rattle.std.specs.Prelude.{Some}
use Rattle.numbers.specs.Numbers.{number_at}
use Rattle.numbers.proofs.Laws.{at_most_eight_narrow}
use Rattle.message.specs.Reading.{field_at}
use Rattle.message.proofs.reader.field_at.Goals as goal

pub returns-then-flag : goal.returns-then-flag
returns-then-flag c =
    let a = c.args in
    ap Some (c.read_at.ensures ∙ ap (number_at a.bytes.now a.at) (at_most_eight_narrow a.width c.requires)) ∙ sym (ap (λ (t : Bool). field_at t a.bytes.now a.at a.width) c.if-flag.true)
