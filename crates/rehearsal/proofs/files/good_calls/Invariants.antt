use Prim.Native.Nat.{◌-◌, ◌≤◌}
use mathlib.Core.Path.{◌≡◌}
use lib.ListN.{length}
use Rattle.rehearsal.specs.Files.{good_calls, most_calls}
use Rattle.rehearsal.proofs.files.good_calls.Given as goal

-- The calls still to do from the place on are good where all are.
abbrev pub invariant-loop-k : goal.invariant-loop-k
invariant-loop-k l = (l.at ≤ length l.file) × (good_calls (most_calls - l._k) l.file l.at ≡ good_calls most_calls l.file l.start)
