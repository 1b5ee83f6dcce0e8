use Rattle.rehearsal.proofs.Texts.{Marked}
use Rattle.rehearsal.proofs.lines.put_marks.Given as goal

abbrev pub invariant-loop-mark : goal.invariant-loop-mark
invariant-loop-mark l = Marked l.initial.page l.marks l.mark-index l.page
