-- The part of the output that is lent comes back filled with the message.
use Rattle.node.proofs.Written.{plain_filled}
use Rattle.node.proofs.writing.put.Goals as goal

pub returns : goal.returns
returns c =
    let a = c.args in
    plain_filled c.requires.plain a.id a.event c.requires.id_value a.at a.out.now _ c.requires.at_in_bounds c.write.ensures.out_after
