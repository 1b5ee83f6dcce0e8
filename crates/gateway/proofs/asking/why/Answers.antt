-- The state and both ports; then the reading, and what it says.
use borrow.Enum.Refused.{opened}
use mathlib.Core.Path.{sym, ap, ◌∙◌}
use mathlib.Core.List.{[], ◌∷◌}
use Rattle.basics.specs.declared.Refusal.{Refusal}
use Rattle.basics.specs.Refusals.{told, in_numbers}
use Rattle.message.specs.declared.Message.{Message}
use Rattle.message.proofs.Tellings.{read_once}
use Rattle.std.specs.Prelude.{Result}
use Rattle.std.proofs.lemmas.Result.{err_from_is_err_and}
use Rattle.gateway_rules.specs.declared.Reason.{Reason}
use Rattle.gateway_rules.specs.Reasons.{reason_told}
use Rattle.gateway_rules.proofs.Asking.{why_at_8, why_unread, why_at_15, why_because}
use Rattle.gateway.specs.State.{gate_in, lists, index_lists}
use Rattle.gateway.proofs.Lending.{inside_bounds, inside_whole, outside_why, inside_why}
use Rattle.gateway.proofs.Answering.{no_event, arrival_past, asked_past, both_there}
use Rattle.gateway.proofs.InBounds.{head_good, few_lines}
use Rattle.gateway.proofs.asking.why.Goals as goal

pub returns-then-bad_state : goal.returns-then-bad_state
returns-then-bad_state c =
    let a = c.args in
    sym (outside_why a.head (lists a.nodes.now a.starts.now a.ports.now a.sizes.now) (index_lists a.order.now a.sets.now) a.port a.bytes.now a.asked (sym c.bad_state.ensures ∙ c.if-bad_state.true))

pub returns-then-head-port : goal.returns-then-head-port
returns-then-head-port c =
    let a = c.args in
    let t = lists a.nodes.now a.starts.now a.ports.now a.sizes.now in
    let x = index_lists a.order.now a.sets.now in
    let inside = sym c.bad_state.ensures ∙ c.if-bad_state.false in
    sym (inside_why a.head t x a.port a.bytes.now a.asked inside ∙ why_at_8 (gate_in a.head t) a.port a.asked a.bytes.now (inside_bounds a.head t x inside) (arrival_past a.head t a.port a.asked c.if-head-port.true))

pub returns-then-head-asked : goal.returns-then-head-asked
returns-then-head-asked c =
    let a = c.args in
    let t = lists a.nodes.now a.starts.now a.ports.now a.sizes.now in
    let x = index_lists a.order.now a.sets.now in
    let inside = sym c.bad_state.ensures ∙ c.if-bad_state.false in
    sym (inside_why a.head t x a.port a.bytes.now a.asked inside ∙ why_at_8 (gate_in a.head t) a.port a.asked a.bytes.now (inside_bounds a.head t x inside) (asked_past a.head t a.port a.asked c.if-head-asked.true))

pub returns-in_err-m : goal.returns-in_err-m
returns-in_err-m c =
    let a = c.args in
    let t = lists a.nodes.now a.starts.now a.ports.now a.sizes.now in
    let x = index_lists a.order.now a.sets.now in
    let inside = sym c.bad_state.ensures ∙ c.if-bad_state.false in
    let there = both_there a.head t a.port a.asked c.if-head-port.false c.if-head-asked.false in
    let read = sym (read_once c.read.result a.bytes.now c.read.ensures) ∙ ap (λ (r : Result Message Refusal). in_numbers r) c.in_err-m.was in
    let p = err_from_is_err_and c.from_residual.result c.from_residual.ensures.1 in
    rw (p.1, p.2) (sym (inside_why a.head t x a.port a.bytes.now a.asked inside ∙ why_unread (gate_in a.head t) a.port a.asked a.bytes.now (inside_bounds a.head t x inside) there _ read))

pub returns-in_default : goal.returns-in_default
returns-in_default c =
    let a = c.args in
    let t = lists a.nodes.now a.starts.now a.ports.now a.sizes.now in
    let x = index_lists a.order.now a.sets.now in
    let inside = sym c.bad_state.ensures ∙ c.if-bad_state.false in
    let there = both_there a.head t a.port a.asked c.if-head-port.false c.if-head-asked.false in
    let m = c.in_ok-m.m in
    let read = sym (read_once c.read.result a.bytes.now c.read.ensures) ∙ ap (λ (r : Result Message Refusal). in_numbers r) c.in_ok-m.was in
    sym (inside_why a.head t x a.port a.bytes.now a.asked inside ∙ why_at_15 (gate_in a.head t) a.port a.asked a.bytes.now (inside_bounds a.head t x inside) there m read c.said_by.result c.said_by.ensures (no_event c.said_by.result (opened c.in_default.in_default-own.keys2)))

pub invariant_of-table : goal.invariant_of-table
invariant_of-table c =
    let a = c.args in
    let t = lists a.nodes.now a.starts.now a.ports.now a.sizes.now in
    let x = index_lists a.order.now a.sets.now in
    let inside = sym c.bad_state.ensures ∙ c.if-bad_state.false in
    let whole = inside_whole a.head t x inside in
    record { whole = whole.0; whole_index = whole.1; few = few_lines a.head (head_good a.head t (inside_bounds a.head t x inside)) }

pub reason_for-reason-requires : goal.reason_for-reason-requires
reason_for-reason-requires c =
    let a = c.args in
    let t = lists a.nodes.now a.starts.now a.ports.now a.sizes.now in
    let x = index_lists a.order.now a.sets.now in
    let inside = sym c.bad_state.ensures ∙ c.if-bad_state.false in
    record { in_bounds = inside_bounds a.head t x inside; asked_lt_ports = c.if-head-asked.false }

pub returns : goal.returns
returns c =
    let a = c.args in
    let t = lists a.nodes.now a.starts.now a.ports.now a.sizes.now in
    let x = index_lists a.order.now a.sets.now in
    let inside = sym c.bad_state.ensures ∙ c.if-bad_state.false in
    let there = both_there a.head t a.port a.asked c.if-head-port.false c.if-head-asked.false in
    let m = c.in_ok-m.m in
    let read = sym (read_once c.read.result a.bytes.now c.read.ensures) ∙ ap (λ (r : Result Message Refusal). in_numbers r) c.in_ok-m.was in
    let because = why_because (gate_in a.head t) a.port a.asked a.bytes.now (inside_bounds a.head t x inside) there m read c.said_by.result c.in-Report.e c.said_by.ensures c.in-Report.is in
    sym (inside_why a.head t x a.port a.bytes.now a.asked inside ∙ because ∙ ap (λ (r : Reason). told (reason_told r ∷ [])) (sym c.reason_for-reason.ensures))
