use Prim.Native.Nat.{◌/◌, ◌%◌}
use borrow.Author.Tests.{eq-eqb, ne_eqb}
use Rattle.message.proofs.mti.event_at.Goals as goal

-- The flag of the destination moves the Event ID.
pub returns-then-mti-eq1 : goal.returns-then-mti-eq1
returns-then-mti-eq1 c = rw (eq-eqb (c.args.mti / 8 % 2) 1 c.if-mti-eq1.true)

pub returns-else-mti-eq1 : goal.returns-else-mti-eq1
returns-else-mti-eq1 c = rw (ne_eqb (c.args.mti / 8 % 2) 1 c.if-mti-eq1.false)
