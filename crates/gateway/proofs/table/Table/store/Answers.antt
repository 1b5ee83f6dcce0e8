-- One line more, or one open mark more.
use mathlib.Core.Path.{◌∙◌}
use native.Mathlib.Nat.{le_trans}
use borrow.Author.Rules.{rules}
use Rattle.range.proofs.Laws.{block_parts}
use Rattle.gateway.specs.State.{lists_of}
use Rattle.gateway.specs.Lent.{state_in}
use Rattle.gateway.proofs.InBounds.{head_good, few_ports}
use Rattle.gateway.proofs.Marks.{opened_port}
use Rattle.gateway.proofs.Same.{room_stores}
use Rattle.gateway.proofs.table.Table.store.Goals as goal

pub add-requires-clause-port_bound : goal.add-requires-clause-port_bound
add-requires-clause-port_bound c =
    let t = c.args.self.now in
    (le_trans c.requires.port_lt_ports.0 (few_ports t.head (head_good t.head (lists_of (state_in t)) c.requires.sound.in_bounds)), (block_parts c.args.l.block c.requires.port_lt_ports.1).0)

pub returns-then-self-lt256-clause-gate : goal.returns-then-self-lt256-clause-gate
returns-then-self-lt256-clause-gate c = c.add.ensures.gate ∙ room_stores (state_in c.args.self.now) c.args.l c.if-self-lt256.true

pub with_port-self-requires : goal.with_port-self-requires
with_port-self-requires c =
    let t = c.args.self.now in
    le_trans c.requires.port_lt_ports.0 (few_ports t.head (head_good t.head (lists_of (state_in t)) c.requires.sound.in_bounds))

pub returns-clause-gate : goal.returns-clause-gate
returns-clause-gate c =
    let t = c.args.self.now in
    let below = le_trans c.requires.port_lt_ports.0 (few_ports t.head (head_good t.head (lists_of (state_in t)) c.requires.sound.in_bounds)) in
    opened_port t.head (lists_of (state_in t)) c.args.l c.with_port-self.result c.if-self-lt256.false (search rules) below c.with_port-self.ensures
