use Rattle.text.proofs.Laws.{piece_next}
use Rattle.text.proofs.Page.put.Goals as goal

pub loop-b-preserved : goal.loop-b-preserved
loop-b-preserved c = piece_next c.args.self.now c.args.piece.now c.loop-b.b-index c.loop-b-test.true c.loop-b.invariant c.put_byte.ensures
