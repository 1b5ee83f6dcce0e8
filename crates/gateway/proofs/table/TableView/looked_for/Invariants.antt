use mathlib.Core.Path.{◌≡◌}
use mathlib.Core.Bool.{false}
use Rattle.gateway.specs.State.{lists_of, lines_in}
use Rattle.gateway_rules.specs.Step.{covered, holds_some}
use Rattle.gateway.specs.Lent.{state_seen}
use Rattle.gateway.proofs.table.TableView.looked_for.Given as goal

-- The lines before place i do not cover it, and it is known whether it holds some of them.
abbrev pub invariant-loop-i : goal.invariant-loop-i
invariant-loop-i l =
    (covered (lines_in l.i (lists_of (state_seen l.self))) l.l ≡ false) × (l.holding ≡ holds_some (lines_in l.i (lists_of (state_seen l.self))) l.l)
