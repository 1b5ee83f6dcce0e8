use mathlib.Core.Path.{sym, ap, ◌∙◌}
use native.Mathlib.Omega.{arith}
use Rattle.gateway_rules.specs.Reasons.{by_line}
use Rattle.gateway.specs.State.{lists_of, line_at}
use Rattle.gateway.specs.Lent.{state_seen}
use Rattle.gateway.proofs.Places.{block_at}
use Rattle.gateway.proofs.Naming.{named_nowhere, passed_over, named_at, at_another_port, at_this_port}
use Rattle.gateway.proofs.table.TableView.first_holding.Goals as goal
use Rattle.gateway.proofs.table.TableView.first_holding.Goals.{else-l-asked-via-then-l-asked+else-holds, else-l-asked-via-else-l-asked}

pub loop-place-init : goal.loop-place-init
loop-place-init c =
    let a = c.args in
    named_nowhere a.asked a.e (line_at (lists_of (state_seen a.self.now)))

pub holds-requires : goal.holds-requires
holds-requires c =
    let t = c.args.self.now in
    block_at t.head.count (lists_of (state_seen t)) c.loop-place.place c.requires (omega arith) c.line_at-l.ensures

pub returns-then-holds : goal.returns-then-holds
returns-then-holds c =
    let a = c.args in
    let inside = sym c.holds.ensures ∙ c.if-holds.true in
    sym (ap by_line (named_at a.asked a.e (line_at (lists_of (state_seen a.self.now))) c.loop-place.place c.line_at-l.ensures c.loop-place.invariant a.self.now.head.count (omega arith) (at_this_port a.asked a.e c.line_at-l.result c.if-l-asked.true inside)))

pub loop-place-preserved : goal.loop-place-preserved
loop-place-preserved c =
    let a = c.args in
    let at = line_at (lists_of (state_seen a.self.now)) in
    elim c.else-l-asked.branch [
      | else-l-asked-via-then-l-asked+else-holds w ↦ passed_over a.asked a.e at c.loop-place.place c.line_at-l.ensures c.loop-place.invariant (at_this_port a.asked a.e c.line_at-l.result w.if-l-asked.true (sym w.holds.ensures ∙ w.if-holds.false))
      | else-l-asked-via-else-l-asked w ↦ passed_over a.asked a.e at c.loop-place.place c.line_at-l.ensures c.loop-place.invariant (at_another_port a.asked a.e c.line_at-l.result w.if-l-asked.false)
    ]
