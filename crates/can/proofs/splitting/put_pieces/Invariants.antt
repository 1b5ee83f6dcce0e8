use Rattle.std.proofs.Common.{◌≡◌, ◌+◌, ◌*◌, drop}
use Rattle.numbers.specs.Numbers.{pasted}
use Rattle.can.specs.Splits.{to_do}
use Rattle.can.proofs.splitting.put_pieces.Given as goal

-- What is still to do, put in from here on, comes to the whole.
abbrev pub invariant-loop-i : goal.invariant-loop-i
invariant-loop-i l = pasted (13 * (l.i + 1)) (to_do l.alias (drop (8 * l.i) l.payload)) l.out ≡ pasted 13 (to_do l.alias l.payload) l.initial.out
