use mathlib.Core.Path.{◌≡◌}
use lib.ListN.{length}
use Rattle.gateway.proofs.Lowering.{Lowering}
use Rattle.gateway.proofs.order.lower.Given as goal

-- The numbers before place i are taken out, or stand lowered at the first j places.
abbrev pub invariant-loop-i : goal.invariant-loop-i
invariant-loop-i l = (length l.order ≡ 256) × Lowering l.falls l.initial.order l.order l.i l.j
