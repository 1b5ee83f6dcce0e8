use mathlib.Core.Path.{◌≡◌}
use mathlib.Core.Bool.{not, ◌&&◌}
use lib.Dec.{eqb, ltb}
use Rattle.basics.specs.Sets.{set_of, in_set}
use Rattle.gateway.proofs.port_sets.others.Given as goal

-- The ports below p are settled.
abbrev pub invariant-loop-p : goal.invariant-loop-p
invariant-loop-p l = l.sent ≡ set_of l.p (λ q. ltb q l.ports && (not (eqb q l.port) && in_set l.set q))
