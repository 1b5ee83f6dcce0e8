use Rattle.text.proofs.Laws.{hex_next}
use Rattle.text.proofs.Page.put_hex.Goals as goal

pub loop-b-preserved : goal.loop-b-preserved
loop-b-preserved c =
    hex_next c.args.self.now c.args.bytes.now c.loop-b.b-index c.loop-b-test.true c.loop-b.invariant c.hex_digit.ensures c.put_byte.ensures c.hex_digit-in-loop-b.ensures c.put_byte-in-loop-b.ensures
