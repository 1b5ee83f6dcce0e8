use native.Mathlib.Omega.{arith}
use Rattle.replay.proofs.Good.{body_small}
use Rattle.replay.proofs.files.end.Goals as goal

pub overflow_add-at-in-loop-i : goal.overflow_add-at-in-loop-i
overflow_add-at-in-loop-i c = omega (arith, body_small c.args.file.now c.loop-i.i (λ k. (c.type_inv.file k).fits), c.loop-i.invariant, c.read_at.ensures)
