use Prim.Native.Nat.{◌-◌, ◌≤◌}
use mathlib.Core.Path.{◌≡◌}
use lib.ListN.{length}
use Rattle.framing.specs.Files.{good_steps}
use Rattle.framing.proofs.files.good_steps.Given as goal

-- The steps still to do from the place on are good where all are.
abbrev pub invariant-loop-k : goal.invariant-loop-k
invariant-loop-k l = (l.at ≤ length l.file) × (good_steps (l.count - l._k) l.file l.at ≡ good_steps l.count l.file l.start)
