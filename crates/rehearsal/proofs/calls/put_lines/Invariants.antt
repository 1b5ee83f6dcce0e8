use mathlib.Core.Path.{◌≡◌}
use lib.ListN.{length}
use Rattle.rehearsal.proofs.Running.{Running}
use Rattle.rehearsal.proofs.calls.put_lines.Given as goal

-- Each turn puts the line of one call in.
abbrev pub invariant-loop-k : goal.invariant-loop-k
invariant-loop-k l = Running l.file l.initial.bench l.initial.at l.initial.page l.k l.at l.bench l.page × (length l.out ≡ 2048)
