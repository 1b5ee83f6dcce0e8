use mathlib.Core.Path.{◌≡◌}
use Rattle.gateway.specs.Indexing.{held_in}
use Rattle.gateway.specs.Lent.{state_seen}
use Rattle.gateway.proofs.PortByPort.{asked_below}
use Rattle.gateway.proofs.table.TableView.holders.Given as goal

-- The ports below this one are settled.
abbrev pub invariant-loop-port : goal.invariant-loop-port
invariant-loop-port l = l.wanted ≡ asked_below l.self.head.marks (λ q. held_in (state_seen l.self) q l.e) l.port
