use Prim.Native.Nat.{◌-◌, ◌≤◌}
use mathlib.Core.Path.{◌≡◌}
use mathlib.Core.Bool.{false, ◌&&◌}
use Rattle.basics.specs.Sets.{any_below, in_set}
use Rattle.gateway.proofs.Sizing.{around_in}
use Rattle.gateway.proofs.table.TableView.under.Given as goal

-- None of the sizes below k; those up to the next one of the set are passed over.
abbrev pub invariant-loop-k : goal.invariant-loop-k
invariant-loop-k l =
    (l.k ≤ 64) × (any_below l.k (λ j. in_set l.set j && around_in l.self.head.count l.self.starts.now l.self.ports.now l.self.sizes.now l.port l.e j) ≡ false)

abbrev pub decreases-loop-k : goal.decreases-loop-k
decreases-loop-k l = 64 - l.k
