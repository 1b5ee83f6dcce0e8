use Prim.Native.Nat.{◌≤◌}
use mathlib.Core.Path.{◌≡◌}
use lib.ListN.{length}
use lib.Seq.{paste}
use Rattle.message.proofs.writer.put_body.Given as goal

-- After i bytes the first i of the body stand in the output.
abbrev pub invariant-loop-i : goal.invariant-loop-i
invariant-loop-i l = (l.i ≤ length l.body) × (length l.out ≡ length l.initial.out) × (l.out ≡ paste l.initial.out l.at l.body l.i)
