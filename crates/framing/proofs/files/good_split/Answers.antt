-- The tests in the order of the code.
use Prim.Native.Nat.{◌+◌}
use native.Mathlib.Omega.{arith}
use borrow.Author.Tests.{le-leb, lt-leb}
use lib.ListN.{length, get_or}
use Rattle.framing.specs.Files.{content_length, good_split}
use Rattle.framing.proofs.files.good_split.Goals as goal

pub returns-then-file-at : goal.returns-then-file-at
unfolding good_split
returns-then-file-at c =
    let s = c.args.file.now in
    rw (lt-leb (c.args.at + 33) (length s) c.if-file-at.true)

pub returns-then-file-at-gt1 : goal.returns-then-file-at-gt1
unfolding good_split
returns-then-file-at-gt1 c =
    let s = c.args.file.now in
    rw (le-leb (c.args.at + 33) (length s) c.if-file-at.false, lt-leb (get_or s (c.args.at + 11) 0) 1 (omega arith))

pub returns-then-file-at-gt1-2 : goal.returns-then-file-at-gt1-2
unfolding good_split
returns-then-file-at-gt1-2 c =
    let s = c.args.file.now in
    rw (le-leb (c.args.at + 33) (length s) c.if-file-at.false, le-leb (get_or s (c.args.at + 11) 0) 1 c.if-file-at-gt1.false, lt-leb (get_or s (c.args.at + 20) 0) 1 (omega arith))

pub returns-then-length-gt300 : goal.returns-then-length-gt300
unfolding good_split
returns-then-length-gt300 c =
    let s = c.args.file.now in
    rw (le-leb (c.args.at + 33) (length s) c.if-file-at.false, le-leb (get_or s (c.args.at + 11) 0) 1 c.if-file-at-gt1.false, le-leb (get_or s (c.args.at + 20) 0) 1 c.if-file-at-gt1-2.false, lt-leb (content_length s c.args.at) 300 (rw c.read_at-length.ensures at c.if-length-gt300.true))

pub returns-then-file-at-2 : goal.returns-then-file-at-2
unfolding good_split
returns-then-file-at-2 c =
    let s = c.args.file.now in
    rw (le-leb (c.args.at + 33) (length s) c.if-file-at.false, le-leb (get_or s (c.args.at + 11) 0) 1 c.if-file-at-gt1.false, le-leb (get_or s (c.args.at + 20) 0) 1 c.if-file-at-gt1-2.false, le-leb (content_length s c.args.at) 300 (rw c.read_at-length.ensures at c.if-length-gt300.false), lt-leb (c.args.at + 33 + content_length s c.args.at) (length s) (rw c.read_at-length.ensures at c.if-file-at-2.true))

pub returns : goal.returns
unfolding good_split
returns c =
    let s = c.args.file.now in
    rw (c.read_at.ensures, c.read_at-length.ensures, le-leb (c.args.at + 33) (length s) c.if-file-at.false, le-leb (get_or s (c.args.at + 11) 0) 1 c.if-file-at-gt1.false, le-leb (get_or s (c.args.at + 20) 0) 1 c.if-file-at-gt1-2.false, le-leb (content_length s c.args.at) 300 (rw c.read_at-length.ensures at c.if-length-gt300.false), le-leb (c.args.at + 33 + content_length s c.args.at) (length s) (rw c.read_at-length.ensures at c.if-file-at-2.false))
