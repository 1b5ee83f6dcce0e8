use Rattle.std.proofs.Common.{◌≡◌, ◌<◌, true}
use Rattle.text.specs.Text.{wrote}
use Rattle.gateway.specs.State.{gate_of}
use Rattle.explanation.specs.Words.{event_in, leg_lines, accepted_report}
use Rattle.explanation.proofs.legs.put_legs.Given as goal

-- The lines of the legs before are put in, and where there is one the entry is an accepted report.
abbrev pub invariant-loop-leg : goal.invariant-loop-leg
invariant-loop-leg l = record {
  lines : l.page ≡ wrote l.fn.page (leg_lines l.leg 0 l.entry.index (gate_of l.gateway) l.entry.port (event_in l.entry.body.now));
  accepted : 0 < l.leg → accepted_report (gate_of l.gateway) l.entry.port l.entry.body.now ≡ true;
}
