use borrow.Author.Tests.{le-leb, lt-leb}
use Rattle.numbers.proofs.at_most_eight.Goals as goal

pub returns-then-width-le8-clause-value : goal.returns-then-width-le8-clause-value
returns-then-width-le8-clause-value c = rw (le-leb _ _ c.if-width-le8.true)

pub returns-else-width-le8-clause-value : goal.returns-else-width-le8-clause-value
returns-else-width-le8-clause-value c = rw (lt-leb _ _ c.if-width-le8.false)
