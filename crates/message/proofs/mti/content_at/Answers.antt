use Prim.Native.Nat.{◌/◌, ◌%◌}
use borrow.Author.Tests.{eq-eqb, ne_eqb}
use Rattle.message.proofs.mti.content_at.Goals as goal

-- Each flag moves the content by its field.
pub returns-then-mti-eq1-2 : goal.returns-then-mti-eq1-2
returns-then-mti-eq1-2 c = rw (eq-eqb (c.args.mti / 8 % 2) 1 c.if-mti-eq1.true, eq-eqb (c.args.mti / 4 % 2) 1 c.if-mti-eq1-2.true)

pub returns-else-mti-eq1-2 : goal.returns-else-mti-eq1-2
returns-else-mti-eq1-2 c = rw (eq-eqb (c.args.mti / 8 % 2) 1 c.if-mti-eq1.true, ne_eqb (c.args.mti / 4 % 2) 1 c.if-mti-eq1-2.false)

pub returns-then-mti-eq1-3 : goal.returns-then-mti-eq1-3
returns-then-mti-eq1-3 c = rw (ne_eqb (c.args.mti / 8 % 2) 1 c.if-mti-eq1.false, eq-eqb (c.args.mti / 4 % 2) 1 c.if-mti-eq1-3.true)

pub returns-else-mti-eq1-3 : goal.returns-else-mti-eq1-3
returns-else-mti-eq1-3 c = rw (ne_eqb (c.args.mti / 8 % 2) 1 c.if-mti-eq1.false, ne_eqb (c.args.mti / 4 % 2) 1 c.if-mti-eq1-3.false)
