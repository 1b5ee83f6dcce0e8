-- A state above 1, or no number.
use mathlib.Core.Path.{◌∙◌}
use borrow.Author.Tests.{le-ltb}
use Rattle.node.proofs.Limits.{unnumbered}
use Rattle.node.proofs.bounds.bad_record.Goals as goal

pub returns-else-node-gt-INITIALIZED : goal.returns-else-node-gt-INITIALIZED
returns-else-node-gt-INITIALIZED c = rw (le-ltb 1 c.args.node.state c.if-node-gt-INITIALIZED.false) (c.is_err.ensures.value ∙ unnumbered c.args.node c.number_of.result c.number_of.ensures)
