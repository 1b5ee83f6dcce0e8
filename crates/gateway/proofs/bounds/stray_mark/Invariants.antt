use mathlib.Core.Path.{◌≡◌}
use mathlib.Core.Bool.{false, ◌&&◌}
use lib.Dec.{leb}
use Rattle.basics.specs.Sets.{any_below, in_set}
use Rattle.gateway.proofs.bounds.stray_mark.Given as goal

-- No mark before port p is astray.
abbrev pub invariant-loop-p : goal.invariant-loop-p
invariant-loop-p l = any_below l.p (λ q. leb l.ports q && in_set l.marks q) ≡ false
