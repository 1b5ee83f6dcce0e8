use mathlib.Core.Path.{◌≡◌}
use Rattle.index_rules.specs.Index.{size_sets}
use Rattle.gateway.specs.Indexing.{occurs_in}
use Rattle.gateway.proofs.table.TableView.sets_of_lines.Given as goal

-- The sets are those of the lines before i.
abbrev pub invariant-loop-i : goal.invariant-loop-i
invariant-loop-i l = l.sets ≡ size_sets (occurs_in l.i l.self.ports.now l.self.sizes.now)
