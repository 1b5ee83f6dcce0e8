use Prim.Native.Nat.{◌%◌, ◌^◌}
use mathlib.Core.Path.{◌≡◌}
use Rattle.numbers.specs.Numbers.{spelled}
use Rattle.numbers.proofs.read.Given as goal

-- n is the number that the bytes so far spell, in 64 bits.
abbrev pub invariant-loop-byte : goal.invariant-loop-byte
invariant-loop-byte l = l.n ≡ spelled l.bytes l.byte-index % 2 ^ 64
