-- Two bytes are put in as a pair.
use Prim.Native.Nat.{◌+◌, ◌%◌}
use native.Mathlib.Omega.{arith}
use lib.ListN.{length-set}
use Rattle.numbers.proofs.Pairs.{put_two}
use Rattle.numbers.proofs.fixed.put_pair.Goals as goal

pub bounds-out-at-2 : goal.bounds-out-at-2
bounds-out-at-2 c = omega (arith, length-set c.args.out.now (c.args.at + 1) (c.args.n % 256))

pub returns : goal.returns
returns c = put_two c.args.n c.args.at c.args.out.now c.requires
