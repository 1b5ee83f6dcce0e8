use borrow.Author.Tests.{eq-eqb, ne_eqb}
use mathlib.Core.Path.{ap}
use mathlib.Core.Bool.{not}
use Rattle.range.specs.Range.{has_number}
use Rattle.gateway.proofs.bounds.bad_automatic.Goals as goal

-- No single event, and a block.
pub returns-then-b-eq0 : goal.returns-then-b-eq0
unfolding has_number
returns-then-b-eq0 c = rw (eq-eqb c.args.b.k 0 c.if-b-eq0.true)

pub returns-else-b-eq0 : goal.returns-else-b-eq0
unfolding has_number
returns-else-b-eq0 c = rw (ne_eqb c.args.b.k 0 c.if-b-eq0.false) (ap not c.is_block.ensures)
