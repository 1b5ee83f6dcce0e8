-- Three pairs make six bytes.
use native.Mathlib.Omega.{arith}
use Rattle.numbers.proofs.Pairs.{number_six}
use Rattle.numbers.proofs.fixed.six.Goals as goal

pub returns : goal.returns
returns c =
    let a = c.args in
    record { value = rw (c.two.ensures.value, c.two-2.ensures.value, c.two-3.ensures.value) (number_six a.bytes.now a.at c.requires); upper_bound = omega arith }
