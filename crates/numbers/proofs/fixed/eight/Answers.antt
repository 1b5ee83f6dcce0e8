-- A pair and six bytes make eight.
use Rattle.numbers.proofs.Pairs.{number_eight}
use Rattle.numbers.proofs.fixed.eight.Goals as goal

pub returns : goal.returns
returns c =
    let a = c.args in
    rw (c.six.ensures.value, c.two.ensures.value) (number_eight a.bytes.now a.at c.requires)
