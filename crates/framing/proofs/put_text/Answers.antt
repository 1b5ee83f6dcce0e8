-- A good file's list is loaded and its steps are done.
use mathlib.Core.Bool.{not}
use mathlib.Core.Path.{ap}
use native.Mathlib.Omega.{arith}
use Rattle.framing.proofs.Started.{passed_file, text_bad, text_good}
use Rattle.framing.proofs.put_text.Goals as goal

pub returns-then-not-good : goal.returns-then-not-good
returns-then-not-good c = rw (text_bad c.args.file.now c.good.ensures (ap not c.if-not-good.true)) c.put.ensures

pub bounds-file-0 : goal.bounds-file-0
bounds-file-0 c = omega (arith, (passed_file c.args.file.now c.good.ensures (ap not c.if-not-good.false)).some)

pub load-requires : goal.load-requires
load-requires c =
    let g = passed_file c.args.file.now c.good.ensures (ap not c.if-not-good.false) in
    (omega (arith, c.type_inv.file 0), omega (arith, c.type_inv.file 0), omega (arith, g.head), g.size)

pub put_lines-requires-clause-file_len_bound : goal.put_lines-requires-clause-file_len_bound
put_lines-requires-clause-file_len_bound c =
    let g = passed_file c.args.file.now c.good.ensures (ap not c.if-not-good.false) in
    (g.size, g.head)

pub put_lines-requires-clause-file_value : goal.put_lines-requires-clause-file_value
put_lines-requires-clause-file_value c = (passed_file c.args.file.now c.good.ensures (ap not c.if-not-good.false)).steps

pub returns : goal.returns
returns c =
    rw (text_good c.args.file.now c.good.ensures _ _ (ap not c.if-not-good.false) (c.load.ensures.aliases_after, c.load.ensures.nodes_after)) c.put_lines.ensures
