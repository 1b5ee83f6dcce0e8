-- The frame is joined, and what is handed out is written.
use Prim.Native.Nat.{◌+◌}
use native.Mathlib.Omega.{arith}
use Rattle.framing.proofs.Showing.{frame_writable, frame_left, frame_refused}
use Rattle.framing.proofs.calls.Leg.join.Goals as goal

pub returns-then-joined-ne0-clause-left : goal.returns-then-joined-ne0-clause-left
returns-then-joined-ne0-clause-left c =
    frame_refused _ _ c.args.file.now (c.args.at + 1) (omega (arith, c.requires.0)) c.frame_at-frame.ensures c.join-joined.result c.join-joined.ensures.result_value _ c.if-joined-ne0.true

pub write_handed-requires : goal.write_handed-requires
write_handed-requires c =
    (frame_writable _ _ c.args.file.now (c.args.at + 1) (omega (arith, c.requires.0)) c.frame_at-frame.ensures c.join-joined.result c.join-joined.ensures.result_value, c.requires.2)

pub returns-clause-left : goal.returns-clause-left
returns-clause-left c =
    frame_left _ _ c.args.file.now (c.args.at + 1) (omega (arith, c.requires.0)) c.frame_at-frame.ensures c.join-joined.result c.join-joined.ensures.result_value c.if-joined-ne0.false c.write_handed.ensures
