-- The slots are taken apart, the call is made on their columns, and they are put together again.
use Rattle.slot_records.proofs.Together.{put_together}
use Rattle.slot_records.proofs.perform.Goals as goal

pub returns : goal.returns
returns c =
    let a = c.args in
    let done = c.perform-answer in
    put_together a.node a.call a.bytes.now a.out.now a.slots.now done.result done.new.self done.new.out c.of-columns.ensures done.ensures.out_value done.ensures.fits c.put_back.ensures
