-- Marks have digits, and no marks have a dash.
use mathlib.Core.Path.{refl, sym, ◌∙◌}
use native.Mathlib.Omega.{arith}
use Rattle.rehearsal.proofs.Texts.{no_marks, marked_next, marked_all}
use Rattle.rehearsal.proofs.lines.put_marks.Goals as goal

pub returns-then-is_empty : goal.returns-then-is_empty
returns-then-is_empty c = rw (no_marks c.args.marks.now (sym c.is_empty.ensures ∙ c.if-is_empty.true)) c.put.ensures

pub loop-mark-init : goal.loop-mark-init
loop-mark-init c = record { rest = refl; inside = λ h. absurd (omega (arith, h)) }

pub loop-mark-preserved : goal.loop-mark-preserved
loop-mark-preserved c = marked_next c.loop-mark.invariant (omega arith) c.put_decimal.ensures

pub returns : goal.returns
returns c = marked_all c.loop-mark.invariant (omega arith) (sym c.is_empty.ensures ∙ c.if-is_empty.false)
