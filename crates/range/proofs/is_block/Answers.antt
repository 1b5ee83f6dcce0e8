-- A start is a multiple of 2^k where at least k of its lowest bits are zeros.
use Rattle.range.proofs.Laws.{block_counted}
use Rattle.range.proofs.is_block.Goals as goal

pub returns : goal.returns
returns c = block_counted c.args.b
