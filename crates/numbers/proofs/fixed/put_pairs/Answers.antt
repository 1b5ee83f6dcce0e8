use native.Mathlib.Omega.{arith}
use mathlib.Core.Path.{◌∙◌}
use Rattle.numbers.proofs.Pairs.{pairs_before, pairs_all}
use Rattle.numbers.proofs.fixed.put_pairs.Goals as goal

pub loop-i-preserved : goal.loop-i-preserved
loop-i-preserved g c = let l = c.loop-i in pairs_before c.args.at l.i l.rest l.out (omega arith) (omega arith) c.put_pair.ensures ∙ l.invariant

pub returns : goal.returns
returns g c = let l = c.loop-i in pairs_all c.args.at l.i l.rest l.out (omega arith) ∙ l.invariant
