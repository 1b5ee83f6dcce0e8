-- The first i slots are placed.
use mathlib.Core.Path.{◌≡◌}
use Rattle.slot_records.specs.Columns.{gathered}
use Rattle.slot_records.proofs.columns.Columns.of.Given as goal

abbrev pub invariant-loop-i : goal.invariant-loop-i
invariant-loop-i l = l.columns ≡ gathered l.slots l.i
