-- A byte is left out, put in, or does not fit.
use native.Mathlib.Omega.{arith}
use Rattle.text.proofs.Laws.{byte_skipped, byte_put, byte_past}
use Rattle.text.proofs.Page.put_byte.Goals as goal

pub returns-then-self-gt0 : goal.returns-then-self-gt0
returns-then-self-gt0 c = byte_skipped c.args.self.now c.stay_within.new.self c.args.b c.stay_within.ensures c.if-self-gt0.true

pub returns-then-self : goal.returns-then-self
returns-then-self c = byte_put c.args.self.now c.stay_within.new.self c.args.b c.stay_within.ensures (omega (arith, c.if-self-gt0.false)) c.if-self.true

pub returns-else-self : goal.returns-else-self
returns-else-self c = byte_past c.args.self.now c.stay_within.new.self c.args.b c.stay_within.ensures (omega (arith, c.if-self-gt0.false)) c.if-self.false
