-- A restart takes lines out, an announcement is heard as a line, and all else changes nothing.
use borrow.Enum.Refused.{opened}
use mathlib.Core.Path.{sym, ap, ◌∙◌}
use Rattle.gateway_rules.specs.Step.{hear}
use Rattle.gateway.specs.State.{gate_of}
use Rattle.gateway.specs.Lent.{state_in}
use Rattle.gateway.proofs.Sends.{unheard}
use Rattle.gateway.proofs.table.Table.hear.Goals as goal

pub returns-in-Restart-clause-gate : goal.returns-in-Restart-clause-gate
returns-in-Restart-clause-gate c =
    let a = c.args in
    c.restart.ensures.gate ∙ sym (ap (hear (gate_of (state_in a.self.now)) a.port a.node) c.in-Restart.is)

pub returns-in_default-saying-clause-gate : goal.returns-in_default-saying-clause-gate
returns-in_default-saying-clause-gate c =
    let a = c.args in
    unheard (gate_of (state_in a.self.now)) a.port a.node a.saying (opened c.in_default.in_default-own.keys2) (opened c.in_default-saying.in_default-saying-own.keys2)

pub announce-requires-clause-port_lt_ports : goal.announce-requires-clause-port_lt_ports
announce-requires-clause-port_lt_ports c = (c.requires.port_lt_ports.0, c.requires.port_lt_ports.1 _ c.in-Announcement.is)

pub returns-clause-gate : goal.returns-clause-gate
returns-clause-gate c =
    let a = c.args in
    c.announce.ensures.gate ∙ sym (ap (hear (gate_of (state_in a.self.now)) a.port a.node) c.in-Announcement.is)
