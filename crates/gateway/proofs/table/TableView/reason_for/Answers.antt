-- The tests in document 02's order.
use mathlib.Core.Path.{sym, ◌∙◌}
use native.Mathlib.Omega.{arith}
use Rattle.gateway.specs.State.{lists_of}
use Rattle.gateway.specs.Lent.{state_seen}
use Rattle.gateway.proofs.InBounds.{head_good, blocks_good, few_ports, automatic_block}
use Rattle.gateway.proofs.Answering.{by_arrival, by_automatic, by_mark_lem, by_lines}
use Rattle.gateway.proofs.table.TableView.reason_for.Goals as goal

pub returns-then-asked-port : goal.returns-then-asked-port
returns-then-asked-port c =
    let a = c.args in
    by_arrival a.self.now.head (lists_of (state_seen a.self.now)) a.port a.e a.asked c.if-asked-port.true

pub holds-requires : goal.holds-requires
holds-requires c =
    let t = c.args.self.now in
    automatic_block t.head (head_good t.head (lists_of (state_seen t)) c.requires.in_bounds)

pub returns-then-holds : goal.returns-then-holds
returns-then-holds c =
    let a = c.args in
    by_automatic a.self.now.head (lists_of (state_seen a.self.now)) a.port a.e a.asked c.if-asked-port.false (sym c.holds.ensures ∙ c.if-holds.true)

pub overflow_shr-self : goal.overflow_shr-self
overflow_shr-self c =
    let t = c.args.self.now in
    omega (arith, few_ports t.head (head_good t.head (lists_of (state_seen t)) c.requires.in_bounds), c.requires.asked_lt_ports)

pub returns-then-self-asked-eq1 : goal.returns-then-self-asked-eq1
returns-then-self-asked-eq1 c =
    let a = c.args in
    by_mark_lem a.self.now.head (lists_of (state_seen a.self.now)) a.port a.e a.asked c.if-asked-port.false (sym c.holds.ensures ∙ c.if-holds.false) c.if-self-asked-eq1.true

pub first_holding-requires : goal.first_holding-requires
first_holding-requires c =
    let t = c.args.self.now in
    blocks_good t.head (lists_of (state_seen t)) c.requires.in_bounds

pub returns : goal.returns
returns c =
    let a = c.args in
    c.first_holding.ensures ∙ by_lines a.self.now.head (lists_of (state_seen a.self.now)) a.port a.e a.asked c.if-asked-port.false (sym c.holds.ensures ∙ c.if-holds.false) c.if-self-asked-eq1.false
