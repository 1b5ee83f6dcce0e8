use mathlib.Core.Path.{◌≡◌}
use mathlib.Core.List.{◌++◌}
use lib.ListN.{length, drop}
use Rattle.numbers.specs.Numbers.{bytes_of}
use Rattle.numbers.proofs.write.Given as goal

-- The bytes from i on are written, and the i low bytes of rest are what is left.
abbrev pub invariant-loop-i : goal.invariant-loop-i
invariant-loop-i l = bytes_of l.i l.rest ++ drop l.i l.out ≡ bytes_of (length l.initial.out) l.n
