use Rattle.std.proofs.Common.{refl}
use Rattle.basics.specs.Lists.{each}
use Rattle.can.specs.States.{state_of}
use Rattle.can.proofs.Joining.new.Goals as goal

pub returns-clause-state_value : goal.returns-clause-state_value
unfolding each state_of
returns-clause-state_value c = refl
