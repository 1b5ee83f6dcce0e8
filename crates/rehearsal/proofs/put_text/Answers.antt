-- A good file's board is put through its calls.
use mathlib.Core.Bool.{not}
use mathlib.Core.Path.{ap}
use Rattle.rehearsal.proofs.Started.{passed_file, text_bad, text_good}
use Rattle.rehearsal.proofs.put_text.Goals as goal

pub returns-then-not-good : goal.returns-then-not-good
returns-then-not-good c = rw (text_bad c.args.file.now c.good.ensures (ap not c.if-not-good.true)) c.put.ensures

pub of-bench-requires : goal.of-bench-requires
of-bench-requires c =
    let g = passed_file c.args.file.now c.good.ensures (ap not c.if-not-good.false) in
    (g.count, g.slots, g.size)

pub put_lines-requires-clause-file_len_bound : goal.put_lines-requires-clause-file_len_bound
put_lines-requires-clause-file_len_bound c =
    let g = passed_file c.args.file.now c.good.ensures (ap not c.if-not-good.false) in
    (g.size, g.count, g.slots)

pub put_lines-requires-clause-file_value : goal.put_lines-requires-clause-file_value
put_lines-requires-clause-file_value c = (passed_file c.args.file.now c.good.ensures (ap not c.if-not-good.false)).calls

pub returns : goal.returns
returns c =
    rw (text_good c.args.file.now c.good.ensures (ap not c.if-not-good.false)) (rw c.of-bench.ensures at c.put_lines.ensures)
