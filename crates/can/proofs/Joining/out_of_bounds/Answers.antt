use Rattle.std.proofs.Common.{arith}
use Rattle.std.proofs.lemmas.Bool.Decides.{nat_tests}
use Rattle.can.proofs.Places.{good_none, bounds_one, bounds_two, many}
use Rattle.can.proofs.Joining.out_of_bounds.Goals as goal
use Rattle.can.proofs.Joining.out_of_bounds.Goals.{then-self-gt256, else-self-gt256}

pub returns-in-0 : goal.returns-in-0
returns-in-0 c = good_none c.args.self.now c.in-0.is

pub returns-in-1 : goal.returns-in-1
returns-in-1 c = bounds_one c.args.self.now c.in-1.is

pub returns-then-self-gt256-2 : goal.returns-then-self-gt256-2
returns-then-self-gt256-2 c = let e = bounds_two c.args.self.now c.in-2.is in elim c.if-self-gt256.branch [ then-self-gt256 w ↦ grind (arith, nat_tests) | else-self-gt256 w ↦ grind (arith, nat_tests) ]

pub returns-else-self-gt256-2 : goal.returns-else-self-gt256-2
returns-else-self-gt256-2 c = let e = bounds_two c.args.self.now c.in-2.is in elim c.if-self-gt256.branch [ then-self-gt256 w ↦ grind (arith, nat_tests) | else-self-gt256 w ↦ grind (arith, nat_tests) ]

pub returns-in_default : goal.returns-in_default
returns-in_default c = many c.args.self.now (omega arith)
