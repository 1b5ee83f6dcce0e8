-- No output: an empty one is lent.
use Rattle.node.proofs.Calling.{without_output}
use Rattle.node.proofs.set_status.Goals as goal

pub returns : goal.returns
returns c =
    let called = c.perform in
    without_output _ called.auto.out called.ensures
