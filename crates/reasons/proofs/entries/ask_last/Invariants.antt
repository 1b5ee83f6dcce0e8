use Rattle.std.proofs.Common.{◌≡◌}
use Rattle.index_rules.specs.Boxes.{Right}
use Rattle.gateway.specs.State.{gate_of, box_of}
use Rattle.replay.specs.Lines.{ports}
use Rattle.reasons.proofs.Leaving.{Reached}
use Rattle.reasons.proofs.entries.ask_last.Given as goal

-- All entries before the one to be asked are run, and the box's index is right.
abbrev pub invariant-loop-entry : goal.invariant-loop-entry
invariant-loop-entry l = record {
  reached : Reached l.fn.entries.file.now l.asked (gate_of l.gateway) l.entry-iterator;
  right : Right (box_of l.gateway) × (l.gateway.head.ports ≡ ports);
}
