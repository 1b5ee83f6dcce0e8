-- The first i slots are put back, the others as they were.
use mathlib.Core.Path.{◌≡◌}
use Rattle.slot_records.specs.Columns.{scattered}
use Rattle.slot_records.proofs.columns.Columns.put_back.Given as goal

abbrev pub invariant-loop-i : goal.invariant-loop-i
invariant-loop-i l = l.slots ≡ scattered l.initial.slots l.self l.i
