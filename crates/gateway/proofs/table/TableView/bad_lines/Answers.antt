-- By the ports, by the Node IDs, then by the blocks.
use mathlib.Core.Path.{sym, ap, ◌∙◌}
use mathlib.Core.Bool.{Bool, ◌||◌, true≢false}
use lib.ListN.{take}
use Rattle.message.specs.Messages.{bad_node}
use Rattle.basics.specs.Lists.{any}
use Rattle.gateway.specs.State.{lists_of, first_blocks, not_block}
use Rattle.gateway.specs.Lent.{state_seen}
use Rattle.gateway.proofs.Columns.{bad_lines_taken}
use Rattle.gateway.proofs.table.TableView.bad_lines.Goals as goal
use Rattle.gateway.proofs.table.TableView.bad_lines.Goals.{then-some_port_past, else-some_port_past}

pub returns-then-some_bad_node : goal.returns-then-some_bad_node
returns-then-some_bad_node c =
    let t = c.args.self.now in
    let n = t.head.count in
    let blocks = any not_block (first_blocks n t.starts.now t.sizes.now) in
    let parts = bad_lines_taken t.head.ports n (lists_of (state_seen t)) t.whole t.few in
    c.if-some_bad_node.true ∙ elim c.if-some_port_past.branch [
      | then-some_port_past w ↦ sym (parts ∙ ap (λ (y : Bool). y || (any bad_node (take n t.nodes.now) || blocks)) (sym c.some_port_past.ensures ∙ w.if-some_port_past.true))
      | else-some_port_past w ↦ sym (parts ∙ ap (λ (y : Bool). y || (any bad_node (take n t.nodes.now) || blocks)) (sym c.some_port_past.ensures ∙ w.if-some_port_past.false) ∙ ap (λ (y : Bool). y || blocks) (sym w.some_bad_node.ensures ∙ sym w.value-is ∙ c.if-some_bad_node.true))
    ]

pub returns-else-some_bad_node : goal.returns-else-some_bad_node
returns-else-some_bad_node c =
    let t = c.args.self.now in
    let n = t.head.count in
    let blocks = any not_block (first_blocks n t.starts.now t.sizes.now) in
    let parts = bad_lines_taken t.head.ports n (lists_of (state_seen t)) t.whole t.few in
    elim c.if-some_port_past.branch [
      | then-some_port_past w ↦ absurd (true≢false (sym w.if-some_port_past.true ∙ sym w.value-is ∙ c.if-some_bad_node.false))
      | else-some_port_past w ↦ c.some_no_block.ensures ∙ sym (parts ∙ ap (λ (y : Bool). y || (any bad_node (take n t.nodes.now) || blocks)) (sym c.some_port_past.ensures ∙ w.if-some_port_past.false) ∙ ap (λ (y : Bool). y || blocks) (sym w.some_bad_node.ensures ∙ sym w.value-is ∙ c.if-some_bad_node.false))
    ]
