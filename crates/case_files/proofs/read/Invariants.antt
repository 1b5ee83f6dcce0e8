-- What has been read so far.
use Rattle.std.proofs.Common.{◌≡◌, take}
use Rattle.std.specs.List.{fold}
use Rattle.case_files.specs.Lines.{turned, nothing}
use Rattle.case_files.proofs.read.Given as goal

abbrev pub invariant-loop-b : goal.invariant-loop-b
invariant-loop-b l = l.reader ≡ fold turned nothing (take l.b-index l.b-items)
