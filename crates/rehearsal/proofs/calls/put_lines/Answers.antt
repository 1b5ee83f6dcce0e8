-- Each turn puts the line of one call in.
use mathlib.Core.Path.{refl, ◌∙◌}
use native.Mathlib.Omega.{arith}
use Rattle.rehearsal.specs.Files.{calls_at}
use Rattle.rehearsal.proofs.Good.{call_known}
use Rattle.rehearsal.proofs.Running.{running_start, running_good, running_called, running_next, running_end, running_full}
use Rattle.rehearsal.proofs.calls.put_lines.Goals as goal

pub loop-k-init : goal.loop-k-init
loop-k-init c =
    let a = c.args in
    (running_start a.file.now a.bench.now (calls_at a.file.now) a.page.now (omega arith) c.requires.file_value (omega arith), refl)

pub returns-then-file-at : goal.returns-then-file-at
returns-then-file-at c = running_end c.loop-k.invariant.0 c.if-file-at.true

pub unwrap-kind-requires : goal.unwrap-kind-requires
unwrap-kind-requires c =
    let l = c.loop-k in
    call_known c.args.file.now l.at (running_good l.invariant.0 c.if-file-at.false) c.of.result c.of.ensures

pub call-a-requires : goal.call-a-requires
call-a-requires c =
    let l = c.loop-k in
    (c.if-file-at.false, c.requires.file_len_bound.0, running_good l.invariant.0 c.if-file-at.false, rw c.unwrap-kind.ensures at c.of.ensures, l.invariant.1)

pub overflow_add-at-in-loop-k : goal.overflow_add-at-in-loop-k
overflow_add-at-in-loop-k c =
    omega (arith, (running_called c.loop-k.invariant.0 c.if-file-at.false).whole, c.size-at.ensures, c.requires.file_len_bound.0)

pub loop-k-preserved : goal.loop-k-preserved
loop-k-preserved c =
    let l = c.loop-k in
    let call = c.call-a in
    (running_next l.invariant.0 c.if-file-at.false call.ensures refl c.marks.ensures c.put_line.ensures c.size-at.ensures, call.auto.out ∙ l.invariant.1)

pub returns : goal.returns
returns c = let r = c.loop-k.invariant.0 in running_end r (running_full r (omega arith))
