use Rattle.std.proofs.Common.{◌≡◌, false}
use Rattle.replay.specs.Lines.{ports}
use Rattle.text.proofs.Laws.{Remains}
use Rattle.index_rules.specs.Boxes.{Right}
use Rattle.gateway.specs.State.{gate_of, box_of}
use Rattle.gateway_rules.specs.State.{start_of}
use Rattle.range.specs.Range.{house}
use Rattle.explanation.specs.Words.{lines_of}
use Rattle.explanation.proofs.entries.put_lines.Given as goal

-- Each turn puts the lines of one entry in before the box takes it.
abbrev pub invariant-loop-entry : goal.invariant-loop-entry
invariant-loop-entry l = record {
  lines : Remains l.fn.page (lines_of false (start_of ports house) l.fn.entries) l.page (lines_of l.reported (gate_of l.gateway) l.entry-iterator);
  right : Right (box_of l.gateway) × (l.gateway.head.ports ≡ ports);
}
