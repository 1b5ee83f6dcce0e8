use Prim.Native.Nat.{ℕ}
use mathlib.Core.Path.{◌≡◌, refl, sym, ap, ap₂, ◌∙◌, subst}
use borrow.Author.Rules.{rules}
use Rattle.std.specs.Prelude.{Result}
use Rattle.basics.specs.declared.Refusal.{Refusal}
use Rattle.basics.specs.Refusals.{in_numbers, refusal_number}
use Rattle.message.specs.declared.Message.{Message}
use Rattle.message.proofs.Tellings.{read_once}
use Rattle.gateway_rules.specs.State.{Gate}
use Rattle.gateway_rules.specs.Step.{hear}
use Rattle.gateway_rules.proofs.Said.{announcement_block}
use Rattle.index_rules.specs.Index.{Index}
use Rattle.gateway.specs.declared.state.Gateway.{Gateway}
use Rattle.gateway.specs.declared.state.Head.{Head}
use Rattle.gateway.specs.State.{Lists, IndexLists, gate_in, gate_of, head_with, index_in, lists, lists_of, index_lists, index_lists_of}
use Rattle.gateway.specs.Answers.{Seen, seen_lent, seen_of, wanted_by}
use Rattle.gateway.specs.Indexing.{Sound}
use Rattle.gateway.specs.Lent.{state_in}
use Rattle.gateway.proofs.Same.{head_kept}
use Rattle.gateway.proofs.InBounds.{head_good, few_lines}
use Rattle.gateway.proofs.Fitting.{right_fits}
use Rattle.gateway.proofs.Sends.{sent_wanted, heard_taken}
use Rattle.gateway.proofs.Lending.{inside_bounds, inside_right, inside_whole, outside_step, inside_step, refusal_given, right_kept}
use Rattle.gateway.proofs.Leaving.{left_right}
use Rattle.gateway.proofs.Stepping.{step_at_8, step_takes, step_refuses, ports_reached}
use Rattle.gateway.proofs.lent.receive_lent.Goals as goal

-- The state and the port; then the reading, the ports that want it, and what it changes.
seen : {x y : ℕ} {g h : Gate} {u v : Index} → x ≡ y → g ≡ h → u ≡ v
    → ◌≡◌ {A = Seen} (record { refusal = 0; sent = x; gate = g; index = u }) (record { refusal = 0; sent = y; gate = h; index = v })
seen p q r = λ i. record { refusal = 0; sent = p i; gate = q i; index = r i }

pub returns-then-bad_state : goal.returns-then-bad_state
returns-then-bad_state c =
    let a = c.args in
    let t = lists a.nodes.now a.starts.now a.ports.now a.sizes.now in
    let x = index_lists a.order.now a.sets.now in
    let both = refusal_given a.head t x a.port a.bytes.now c.refused.result 7 c.refused.ensures (outside_step a.head t x a.port a.bytes.now (sym c.bad_state.ensures ∙ c.if-bad_state.true)) refl in
    record { sets_value = both.0; lent_refusal_keeps = both.1 }

pub returns-then-head-port : goal.returns-then-head-port
returns-then-head-port c =
    let a = c.args in
    let t = lists a.nodes.now a.starts.now a.ports.now a.sizes.now in
    let x = index_lists a.order.now a.sets.now in
    let inside = sym c.bad_state.ensures ∙ c.if-bad_state.false in
    let refuses = step_at_8 (gate_in a.head t) a.port a.bytes.now (inside_bounds a.head t x inside) (ports_reached a.head t a.port c.if-head-port.true) in
    let both = refusal_given a.head t x a.port a.bytes.now c.refused-then-head-port.result 8 c.refused-then-head-port.ensures (inside_step a.head t x a.port a.bytes.now inside ∙ refuses) refl in
    record { sets_value = both.0; lent_refusal_keeps = both.1 }

pub returns-in_default : goal.returns-in_default
returns-in_default c =
    let a = c.args in
    let t = lists a.nodes.now a.starts.now a.ports.now a.sizes.now in
    let x = index_lists a.order.now a.sets.now in
    let n = refusal_number c.unwrap_err.result in
    let inside = sym c.bad_state.ensures ∙ c.if-bad_state.false in
    let read = sym (read_once c.read-reading.result a.bytes.now c.read-reading.ensures) ∙ ap (λ (r : Result Message Refusal). in_numbers r) c.unwrap_err.ensures in
    let refuses = step_refuses a.head t a.port a.bytes.now (inside_bounds a.head t x inside) c.if-head-port.false n read in
    let both = refusal_given a.head t x a.port a.bytes.now c.refused-in_default.result n c.refused-in_default.ensures (inside_step a.head t x a.port a.bytes.now inside ∙ refuses) (right_kept a.head t x n (inside_right a.head t x inside)) in
    record { sets_value = both.0; lent_refusal_keeps = both.1 }

pub invariant_of-table : goal.invariant_of-table
invariant_of-table c =
    let a = c.args in
    let t = lists a.nodes.now a.starts.now a.ports.now a.sizes.now in
    let x = index_lists a.order.now a.sets.now in
    let inside = sym c.bad_state.ensures ∙ c.if-bad_state.false in
    let whole = inside_whole a.head t x inside in
    record { whole = whole.0; whole_index = whole.1; few = few_lines a.head (head_good a.head t (inside_bounds a.head t x inside)) }

pub wanted-wanted-requires : goal.wanted-wanted-requires
wanted-wanted-requires c =
    let a = c.args in
    let t = lists a.nodes.now a.starts.now a.ports.now a.sizes.now in
    let x = index_lists a.order.now a.sets.now in
    let inside = sym c.bad_state.ensures ∙ c.if-bad_state.false in
    let bounds = inside_bounds a.head t x inside in
    subst Sound (sym c.view.ensures) (record { in_bounds = bounds; index_fits = right_fits a.head.count (few_lines a.head (head_good a.head t bounds)) t x (inside_right a.head t x inside); events = λ i. search (rules, c.well_formed) })

pub hear-requires : goal.hear-requires
hear-requires c =
    let a = c.args in
    let t = lists a.nodes.now a.starts.now a.ports.now a.sizes.now in
    let x = index_lists a.order.now a.sets.now in
    let inside = sym c.bad_state.ensures ∙ c.if-bad_state.false in
    let bounds = inside_bounds a.head t x inside in
    record { sound = record { in_bounds = bounds; index_fits = right_fits a.head.count (few_lines a.head (head_good a.head t bounds)) t x (inside_right a.head t x inside); events = λ i. search (rules, c.well_formed) }; port_lt_ports = (c.if-head-port.false, λ b e. announcement_block c.in-Ok.m b (sym c.said_by-saying.ensures ∙ e)) }

pub returns : goal.returns
returns c =
    let a = c.args in
    let t = lists a.nodes.now a.starts.now a.ports.now a.sizes.now in
    let x = index_lists a.order.now a.sets.now in
    let g = gate_in a.head t in
    let inside = sym c.bad_state.ensures ∙ c.if-bad_state.false in
    let bounds = inside_bounds a.head t x inside in
    let m = c.in-Ok.m in
    let u = c.hear.new.self in
    let after = state_in u in
    let sent = c.others-sent.ensures ∙ sent_wanted a.head t a.port m c.wanted-wanted.result (c.wanted-wanted.ensures ∙ ap (λ (h : Gateway). wanted_by (gate_of h) c.said_by-saying.result) c.view.ensures ∙ ap (wanted_by g) c.said_by-saying.ensures) in
    let heard = ap (λ (h : Head). gate_in h (lists_of after)) (head_kept c.hear.ensures.same) ∙ c.hear.ensures.gate ∙ ap (hear g a.port m.source) c.said_by-saying.ensures ∙ heard_taken g a.port m in
    let takes = step_takes a.head t a.port a.bytes.now bounds c.if-head-port.false m (sym (read_once c.read-reading.result a.bytes.now c.read-reading.ensures) ∙ ap (λ (r : Result Message Refusal). in_numbers r) c.in-Ok.is) in
    let right = left_right a.head t a.port m bounds (head_with a.head u.head.marks u.head.count) (lists_of after) (index_lists_of after) heard c.hear.ensures.index_fits in
    record { sets_value = ap₂ (λ (v : Lists) (y : IndexLists). seen_lent a.head (record { refusal = 0; sent = c.others-sent.result; marks = u.head.marks; count = u.head.count }) v y) (search rules) (search rules) ∙ seen sent heard right ∙ ap (seen_of (index_in a.head.count x)) (sym (inside_step a.head t x a.port a.bytes.now inside ∙ takes)); lent_refusal_keeps = λ refused. absurd (refused refl) }
