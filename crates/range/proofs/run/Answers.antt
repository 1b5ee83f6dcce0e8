-- Counting the zeros of an even number, or of an odd one's complement, counts the run.
use Rattle.range.proofs.Runs.{run_even, run_odd}
use Rattle.range.proofs.run.Goals as goal

pub returns-then-r-eq0 : goal.returns-then-r-eq0
returns-then-r-eq0 c = run_even c.args.r c.if-r-eq0.true

pub returns-else-r-eq0 : goal.returns-else-r-eq0
returns-else-r-eq0 c = run_odd c.args.r c.ranges.r.fits c.if-r-eq0.false
