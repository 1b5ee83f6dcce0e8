use Rattle.std.proofs.Common.{refl}
use Rattle.basics.specs.Lists.{each}
use Rattle.can.proofs.Gathered.empty.Goals as goal

pub returns-clause-result_value : goal.returns-clause-result_value
unfolding each
returns-clause-result_value c = refl
