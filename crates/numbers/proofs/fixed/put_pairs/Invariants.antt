use Prim.Native.Nat.{◌*◌}
use mathlib.Core.Path.{◌≡◌}
use Rattle.numbers.specs.Numbers.{bytes_of, pasted}
use Rattle.numbers.proofs.fixed.put_pairs.Given as goal

-- To put in the i pairs that are left of rest puts in the whole number.
abbrev pub invariant-loop-i : goal.invariant-loop-i
invariant-loop-i g l = pasted l.at (bytes_of (2 * l.i) l.rest) l.out ≡ pasted l.at (bytes_of (2 * g.row.PAIRS) l.n) l.initial.out
