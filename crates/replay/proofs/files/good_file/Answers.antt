use native.Mathlib.Omega.{arith}
use borrow.Author.Tests.{le-leb, lt-leb}
use lib.ListN.{length}
use Rattle.replay.specs.Files.{entry_count, entry_at, good_file}
use Rattle.replay.proofs.files.good_file.Goals as goal

-- The tests in the order of the code.
pub returns-then-file-gt65536 : goal.returns-then-file-gt65536
unfolding good_file
returns-then-file-gt65536 c =
    let s = c.args.file.now in
    rw (lt-leb (length s) 65536 c.if-file-gt65536.true)

pub returns-then-file-lt2 : goal.returns-then-file-lt2
unfolding good_file
returns-then-file-lt2 c =
    let s = c.args.file.now in
    rw (le-leb (length s) 65536 c.if-file-gt65536.false, lt-leb 2 (length s) c.if-file-lt2.true)

pub returns-then-count-gt1000 : goal.returns-then-count-gt1000
unfolding good_file
returns-then-count-gt1000 c =
    let s = c.args.file.now in
    rw (le-leb (length s) 65536 c.if-file-gt65536.false, le-leb 2 (length s) c.if-file-lt2.false, lt-leb (entry_count s) 1000 (omega (arith, c.read_at-count.ensures, c.if-count-gt1000.true)))

pub returns-then-file-count : goal.returns-then-file-count
unfolding good_file
returns-then-file-count c =
    let s = c.args.file.now in
    rw (le-leb (length s) 65536 c.if-file-gt65536.false, le-leb 2 (length s) c.if-file-lt2.false, le-leb (entry_count s) 1000 (omega (arith, c.read_at-count.ensures, c.if-count-gt1000.false)), lt-leb (entry_at (entry_count s)) (length s) (omega (arith, c.read_at-count.ensures, c.if-file-count.true)))

pub returns : goal.returns
unfolding good_file
returns c =
    let s = c.args.file.now in
    rw (c.end.ensures, c.read_at-count.ensures, le-leb (length s) 65536 c.if-file-gt65536.false, le-leb 2 (length s) c.if-file-lt2.false, le-leb (entry_count s) 1000 (omega (arith, c.read_at-count.ensures, c.if-count-gt1000.false)), le-leb (entry_at (entry_count s)) (length s) (omega (arith, c.read_at-count.ensures, c.if-file-count.false)))
