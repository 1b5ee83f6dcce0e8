use native.Mathlib.Omega.{arith}
use borrow.Author.Tests.{le-leb, lt-leb}
use lib.ListN.{length}
use Rattle.framing.specs.Files.{step_count, steps_at, good_file}
use Rattle.framing.proofs.files.good.Goals as goal

-- The tests in the order of the code.
pub returns-then-file-gt65536 : goal.returns-then-file-gt65536
unfolding good_file
returns-then-file-gt65536 c = rw (lt-leb (length c.args.file.now) 65536 c.if-file-gt65536.true)

pub returns-then-file-lt1 : goal.returns-then-file-lt1
unfolding good_file
returns-then-file-lt1 c =
    let s = c.args.file.now in
    rw (le-leb (length s) 65536 c.if-file-gt65536.false, lt-leb 1 (length s) c.if-file-lt1.true)

pub overflow_cast-at : goal.overflow_cast-at
overflow_cast-at c = omega (arith, c.type_inv.file 0)

pub overflow_mul-at : goal.overflow_mul-at
overflow_mul-at c = omega (arith, c.type_inv.file 0)

pub overflow_add-at : goal.overflow_add-at
overflow_add-at c = omega (arith, c.type_inv.file 0)

pub overflow_add-at-2 : goal.overflow_add-at-2
overflow_add-at-2 c = omega (arith, c.type_inv.file 0)

pub returns-then-file-at : goal.returns-then-file-at
unfolding good_file
returns-then-file-at c =
    let s = c.args.file.now in
    rw (le-leb (length s) 65536 c.if-file-gt65536.false, le-leb 1 (length s) c.if-file-lt1.false, lt-leb (steps_at s) (length s) c.if-file-at.true)

pub returns-then-count-gt1000 : goal.returns-then-count-gt1000
unfolding good_file
returns-then-count-gt1000 c =
    let s = c.args.file.now in
    rw (le-leb (length s) 65536 c.if-file-gt65536.false, le-leb 1 (length s) c.if-file-lt1.false, le-leb (steps_at s) (length s) c.if-file-at.false, lt-leb (step_count s) 1000 (rw c.read_at-count.ensures at c.if-count-gt1000.true))

pub returns : goal.returns
unfolding good_file
returns c =
    let s = c.args.file.now in
    rw (c.good_steps.ensures, c.read_at-count.ensures, le-leb (length s) 65536 c.if-file-gt65536.false, le-leb 1 (length s) c.if-file-lt1.false, le-leb (steps_at s) (length s) c.if-file-at.false, le-leb (step_count s) 1000 (rw c.read_at-count.ensures at c.if-count-gt1000.false))
