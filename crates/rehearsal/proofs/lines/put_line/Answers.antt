-- The pieces of the line are put in one after the other.
use Rattle.std.proofs.Common.{append_assoc}
use Rattle.text.proofs.Laws.{wrote_next}
use Rattle.rehearsal.specs.Lines.{line_of}
use Rattle.rehearsal.proofs.lines.put_line.Goals as goal

pub returns : goal.returns
unfolding line_of
returns c =
    rw (c.put-6.ensures, c.put_marks.ensures, c.put-5.ensures, c.put_decimal-3.ensures, c.put-4.ensures, c.put_hex.ensures, c.write.ensures, c.put-3.ensures, c.put_hex_or_dash.ensures, c.put-2.ensures, c.put_decimal-2.ensures, c.put.ensures, c.put_decimal.ensures)
    (simp (wrote_next, append_assoc))
