-- The first test that applies; the index last.
use mathlib.Core.Path.{sym, ◌∙◌}
use Rattle.gateway.specs.State.{lists, index_lists}
use Rattle.gateway.proofs.InBounds.{by_head, few_lines, lines_sized}
use Rattle.gateway.proofs.Fitting.{tests_tell}
use Rattle.gateway.proofs.Lending.{whole_lists, whole_index, outside_by}
use Rattle.gateway.proofs.bounds.bad_state.Goals as goal

pub returns-then-bad_head : goal.returns-then-bad_head
returns-then-bad_head c =
    let a = c.args in
    let t = lists a.nodes.now a.starts.now a.ports.now a.sizes.now in
    sym (outside_by a.head t (index_lists a.order.now a.sets.now) (sym c.bad_lengths.ensures ∙ c.if-bad_lengths.false) (sym c.bad_index_lengths.ensures ∙ c.if-bad_index_lengths.false) (by_head a.head t (sym c.bad_head.ensures ∙ c.if-bad_head.true)))

pub returns-then-bad_lines : goal.returns-then-bad_lines
returns-then-bad_lines c =
    let a = c.args in
    let t = lists a.nodes.now a.starts.now a.ports.now a.sizes.now in
    let out = by_head a.head t (sym c.bad_head.ensures ∙ c.if-bad_head.false) ∙ sym c.bad_lines.ensures ∙ c.if-bad_lines.true in
    sym (outside_by a.head t (index_lists a.order.now a.sets.now) (sym c.bad_lengths.ensures ∙ c.if-bad_lengths.false) (sym c.bad_index_lengths.ensures ∙ c.if-bad_index_lengths.false) out)

pub astray-requires : goal.astray-requires
astray-requires c =
    let a = c.args in
    let t = lists a.nodes.now a.starts.now a.ports.now a.sizes.now in
    lines_sized a.head t (by_head a.head t (sym c.bad_head.ensures ∙ c.if-bad_head.false) ∙ sym c.bad_lines.ensures ∙ c.if-bad_lines.false)

pub invariant_of-table : goal.invariant_of-table
invariant_of-table c =
    let a = c.args in
    record {
      whole = whole_lists (lists a.nodes.now a.starts.now a.ports.now a.sizes.now) (sym c.bad_lengths.ensures ∙ c.if-bad_lengths.false);
      whole_index = whole_index (index_lists a.order.now a.sets.now) (sym c.bad_index_lengths.ensures ∙ c.if-bad_index_lengths.false);
      few = few_lines a.head (sym c.bad_head.ensures ∙ c.if-bad_head.false);
    }

pub returns : goal.returns
returns c =
    let a = c.args in
    let t = lists a.nodes.now a.starts.now a.ports.now a.sizes.now in
    let x = index_lists a.order.now a.sets.now in
    let in_bounds = by_head a.head t (sym c.bad_head.ensures ∙ c.if-bad_head.false) ∙ sym c.bad_lines.ensures ∙ c.if-bad_lines.false in
    c.astray.ensures
    ∙ tests_tell a.head.count (few_lines a.head (sym c.bad_head.ensures ∙ c.if-bad_head.false)) t x
    ∙ sym (outside_by a.head t x (sym c.bad_lengths.ensures ∙ c.if-bad_lengths.false) (sym c.bad_index_lengths.ensures ∙ c.if-bad_index_lengths.false) in_bounds)
