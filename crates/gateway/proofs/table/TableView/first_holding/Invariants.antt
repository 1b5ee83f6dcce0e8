use mathlib.Core.Path.{◌≡◌}
use mathlib.Core.List.{[]}
use Rattle.gateway_rules.specs.Reasons.{first_holding}
use Rattle.gateway.specs.State.{lists_of, lines_in}
use Rattle.gateway.specs.Lent.{state_seen}
use Rattle.gateway.proofs.table.TableView.first_holding.Given as goal

-- The lines before the place hold nothing.
abbrev pub invariant-loop-place : goal.invariant-loop-place
invariant-loop-place l = first_holding l.asked l.e 0 (lines_in l.place (lists_of (state_seen l.self))) ≡ []
