use Rattle.text.proofs.Laws.{Remains}
use Rattle.index_rules.specs.Boxes.{Right}
use Rattle.gateway.specs.State.{gate_of, box_of}
use Rattle.range.specs.Range.{house}
use Rattle.gateway_rules.specs.State.{start_of}
use Rattle.replay.specs.Lines.{ports, lines_of}
use Rattle.replay.proofs.run.put_lines.Given as goal

-- Each turn puts the line of one entry in, and leaves the box's index right.
abbrev pub invariant-loop-entry : goal.invariant-loop-entry
invariant-loop-entry l = record {
  lines : Remains l.fn.page (lines_of (start_of ports house) l.fn.entries) l.page (lines_of (gate_of l.gateway) l.entry-iterator);
  right : Right (box_of l.gateway);
}
