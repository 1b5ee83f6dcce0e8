-- The tests in the order of the code.
use native.Mathlib.Omega.{arith}
use borrow.Author.Tests.{le-leb, lt-leb}
use lib.ListN.{length}
use Rattle.rehearsal.specs.Files.{slot_count, calls_at, good_file}
use Rattle.rehearsal.proofs.files.good.Goals as goal

pub returns-then-file-gt65536 : goal.returns-then-file-gt65536
unfolding good_file
returns-then-file-gt65536 c = let s = c.args.file.now in rw (lt-leb (length s) 65536 c.if-file-gt65536.true)

pub returns-then-file-lt17 : goal.returns-then-file-lt17
unfolding good_file
returns-then-file-lt17 c = let s = c.args.file.now in rw (le-leb (length s) 65536 c.if-file-gt65536.false, lt-leb 17 (length s) c.if-file-lt17.true)

pub overflow_cast-count : goal.overflow_cast-count
overflow_cast-count c = omega (arith, c.type_inv.file 16)

pub returns-then-count-gt100 : goal.returns-then-count-gt100
unfolding good_file
returns-then-count-gt100 c =
    let s = c.args.file.now in
    rw (le-leb (length s) 65536 c.if-file-gt65536.false, le-leb 17 (length s) c.if-file-lt17.false, lt-leb (slot_count s) 100 c.if-count-gt100.true)

pub returns-then-file-at : goal.returns-then-file-at
unfolding good_file
returns-then-file-at c =
    let s = c.args.file.now in
    rw (le-leb (length s) 65536 c.if-file-gt65536.false, le-leb 17 (length s) c.if-file-lt17.false, le-leb (slot_count s) 100 c.if-count-gt100.false, lt-leb (calls_at s) (length s) c.if-file-at.true)

pub returns : goal.returns
unfolding good_file
returns c =
    let s = c.args.file.now in
    rw (c.good_calls.ensures, le-leb (length s) 65536 c.if-file-gt65536.false, le-leb 17 (length s) c.if-file-lt17.false, le-leb (slot_count s) 100 c.if-count-gt100.false, le-leb (calls_at s) (length s) c.if-file-at.false)
