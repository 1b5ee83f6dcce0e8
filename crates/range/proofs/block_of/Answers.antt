-- The prefix above the run is the start of the block.
use Rattle.range.specs.Range.{block_of}
use Rattle.range.proofs.Runs.{run_of}
use Rattle.range.proofs.block_of.Goals as goal

pub prefix-requires : goal.prefix-requires
prefix-requires c = rw c.run-k.ensures (run_of c.args.r).fits

pub returns : goal.returns
unfolding block_of
returns c = rw (c.prefix.ensures, c.run-k.ensures)
