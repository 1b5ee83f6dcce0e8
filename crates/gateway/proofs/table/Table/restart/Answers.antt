use Rattle.gateway.specs.State.{gate_in}
use Rattle.gateway.proofs.table.Table.restart.Goals as goal

pub returns-clause-gate : goal.returns-clause-gate
unfolding gate_in
returns-clause-gate c = c.remove.ensures.gate
