use mathlib.Core.Path.{◌≡◌}
use mathlib.Core.Bool.{false}
use Rattle.basics.specs.Sets.{any_below}
use Rattle.index_rules.specs.Agreeing.{stray}
use Rattle.gateway.specs.Indexing.{spots_of, entry_in}
use Rattle.gateway.specs.Lent.{state_seen}
use Rattle.gateway.proofs.table.TableView.strays.Given as goal

-- None of the places before i strays.
abbrev pub invariant-loop-i : goal.invariant-loop-i
invariant-loop-i l = any_below l.i (stray (spots_of (state_seen l.self)) l.self.head.count (entry_in l.self.order.now)) ≡ false
