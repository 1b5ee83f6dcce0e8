-- Only a destination that is flagged is read, and lies within the bytes.
use mathlib.Core.Path.{sym, ap, ◌∙◌}
use mathlib.Core.Bool.{Bool}
use borrow.Author.Tests.{eq-eqb, ne_eqb}
use Rattle.message.specs.Messages.{bad_node, bad_where_present}
use Rattle.message.specs.Reading.{field_at}
use Rattle.message.proofs.reader.bad_destination.Goals as goal

pub returns-then-code-eq1 : goal.returns-then-code-eq1
returns-then-code-eq1 c =
    c.bad_node.ensures ∙ ap bad_node c.read_at.ensures ∙ sym (ap (λ (t : Bool). bad_where_present (field_at t c.args.bytes.now 8 6)) (eq-eqb _ 1 c.if-code-eq1.true))

pub returns-else-code-eq1 : goal.returns-else-code-eq1
returns-else-code-eq1 c =
    let none = ne_eqb _ 1 c.if-code-eq1.false in
    none ∙ sym (ap (λ (t : Bool). bad_where_present (field_at t c.args.bytes.now 8 6)) none)
