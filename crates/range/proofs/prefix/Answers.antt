-- The complement of the mask picks the bits above it.
use Rattle.range.proofs.Masks.{above_mask}
use Rattle.range.proofs.prefix.Goals as goal

pub returns : goal.returns
returns c = rw c.mask.ensures (above_mask 64 c.args.e c.args.k c.ranges.e.fits c.requires)
