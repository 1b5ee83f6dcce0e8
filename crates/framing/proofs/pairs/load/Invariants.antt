use Prim.Native.Nat.{◌≤◌}
use mathlib.Core.Path.{◌≡◌}
use mathlib.Core.List.{◌++◌}
use lib.ListN.{drop}
use Rattle.basics.specs.Lists.{each}
use Rattle.framing.specs.Files.{pair_alias, pair_node}
use Rattle.framing.proofs.pairs.load.Given as goal

-- The lists are filled in up to pair i.
abbrev pub invariant-loop-i : goal.invariant-loop-i
invariant-loop-i l =
    (l.i ≤ l.count) × (l.aliases ≡ each l.i (pair_alias l.file) ++ drop l.i l.initial.aliases) × (l.nodes ≡ each l.i (pair_node l.file) ++ drop l.i l.initial.nodes)
