use Rattle.std.proofs.Common.{◌≡◌, ◌<◌}
use Rattle.text.specs.Text.{wrote}
use Rattle.gateway_rules.specs.Reasons.{why_told}
use Rattle.gateway.specs.State.{gate_of}
use Rattle.reasons.proofs.Asked.{lines_before}
use Rattle.reasons.proofs.lines.put.Given as goal

-- The lines of the ports before are put in, and where there is one no port is refused.
abbrev pub invariant-loop-asked : goal.invariant-loop-asked
invariant-loop-asked l = record {
  lines : l.page ≡ wrote l.fn.page (lines_before (gate_of l.gateway) l.entry.port l.entry.body.now l.asked);
  reasons : 0 < l.asked → (why_told (gate_of l.gateway) l.entry.port 0 l.entry.body.now).refusal ≡ 0;
}
