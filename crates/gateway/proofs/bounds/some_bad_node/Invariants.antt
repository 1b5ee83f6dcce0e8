use Prim.Native.Nat.{◌*◌, ◌^◌, ◌≤◌}
use mathlib.Core.Path.{◌≡◌}
use mathlib.Core.Bool.{not}
use lib.Dec.{eqb, leb}
use lib.ListN.{take}
use Rattle.basics.specs.Lists.{any}
use Rattle.gateway.proofs.bounds.some_bad_node.Given as goal

-- It is known whether one of the Node IDs so far is 0, and whether one has more than six bytes.
abbrev pub invariant-loop-node : goal.invariant-loop-node
invariant-loop-node l =
    (l.above ≤ l.node-index * 65535) × (l.zero ≡ any (λ n. eqb n 0) (take l.node-index l.nodes)) × (not (eqb l.above 0) ≡ any (leb (2 ^ 48)) (take l.node-index l.nodes))
