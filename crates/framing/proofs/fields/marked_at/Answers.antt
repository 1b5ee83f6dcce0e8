-- The mark says whether the field is present.
use borrow.Author.Tests.{ne_eqb}
use Rattle.framing.proofs.fields.marked_at.Goals as goal

pub returns-then-file-at-eq1 : goal.returns-then-file-at-eq1
returns-then-file-at-eq1 c = rw (c.if-file-at-eq1.true, c.read_at.ensures)

pub returns-else-file-at-eq1 : goal.returns-else-file-at-eq1
returns-else-file-at-eq1 c = rw (ne_eqb _ 1 c.if-file-at-eq1.false)
