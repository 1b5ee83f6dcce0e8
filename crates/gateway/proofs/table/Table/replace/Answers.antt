use mathlib.Core.Path.{ap, ◌∙◌}
use native.Mathlib.Nat.{le_trans}
use native.Mathlib.Omega.{arith}
use Rattle.range.proofs.Laws.{block_parts}
use Rattle.gateway_rules.specs.State.{Gate}
use Rattle.gateway_rules.specs.Step.{adding}
use Rattle.gateway.specs.State.{gate_in, lists_of}
use Rattle.gateway.specs.Lent.{state_in}
use Rattle.gateway.proofs.InBounds.{head_good, blocks_good, few_ports}
use Rattle.gateway.proofs.Same.{room_left}
use Rattle.gateway.proofs.table.Table.replace.Goals as goal

pub remove-requires-clause-comparable : goal.remove-requires-clause-comparable
remove-requires-clause-comparable c =
    let t = c.args.self.now in
    (c.requires.port_lt_ports.1, blocks_good t.head (lists_of (state_in t)) c.requires.sound.in_bounds)

-- Those that it holds are out, so there is room for it behind the rest.
pub add-requires-clause-room : goal.add-requires-clause-room
add-requires-clause-room c =
    let t = c.args.self.now in
    omega (arith, room_left (state_in t) (state_in c.remove.new.self) c.args.l c.remove.ensures.gate c.requires.holds_some, t.few)

pub add-requires-clause-port_bound : goal.add-requires-clause-port_bound
add-requires-clause-port_bound c =
    let t = c.args.self.now in
    (le_trans c.requires.port_lt_ports.0 (few_ports t.head (head_good t.head (lists_of (state_in t)) c.requires.sound.in_bounds)), (block_parts c.args.l.block c.requires.port_lt_ports.1).0)

pub returns-clause-gate : goal.returns-clause-gate
unfolding gate_in
returns-clause-gate c = c.add.ensures.gate ∙ ap (λ (g : Gate). adding g c.args.l) c.remove.ensures.gate
