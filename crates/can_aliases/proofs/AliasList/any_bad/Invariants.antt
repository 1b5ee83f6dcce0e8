use Rattle.std.proofs.Common.{◌≡◌, length, drop}
use Rattle.can_aliases.proofs.Marks.{Good}
use Rattle.can_aliases.proofs.AliasList.any_bad.Given as goal

abbrev pub invariant-loop-i : goal.invariant-loop-i
invariant-loop-i l = (length l.met ≡ 0x1000) × Good (drop l.i l.aliases) (drop l.i l.nodes) l.met
