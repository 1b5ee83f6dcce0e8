use Rattle.std.proofs.Common.{◌≡◌, ◌+◌, ◌*◌, length, drop, subst, refl, arith}
use Rattle.numbers.specs.Numbers.{Bytes, pasted}
use Rattle.can_rules.specs.Splitting.{middles}
use Rattle.can.specs.Splits.{to_do}
use Rattle.can.proofs.Pieces.{room_left, middle_written, last_written}
use Rattle.can.proofs.splitting.put_pieces.Goals as goal

pub loop-i-preserved : goal.loop-i-preserved
loop-i-preserved c =
    let a = c.args in
    let l = c.loop-i in
    let bytes : Bytes a.payload.now = λ k. (c.type_inv.payload k).fits in
    let room = room_left l.i (length l.out) a.payload.now (omega arith) (omega arith) in
    middle_written a.alias (8 * l.i) (13 * (l.i + 1)) a.payload.now l.out _ bytes room l.invariant (omega arith) _ _ (omega arith) (omega arith) c.put_frame.new.out c.read_at-number.result c.read_at-number.ensures c.put_frame.ensures

pub returns : goal.returns
returns c =
    let a = c.args in
    let l = c.loop-i in
    let bytes : Bytes a.payload.now = λ k. (c.type_inv.payload k).fits in
    let done : l.i ≡ middles a.payload.now = omega arith in
    let whole = subst (λ k. pasted (13 * (k + 1)) (to_do a.alias (drop (8 * k) a.payload.now)) l.out ≡ pasted 13 (to_do a.alias a.payload.now) a.out.now) done l.invariant in
    let room = room_left (middles a.payload.now) (length l.out) a.payload.now (omega arith) (omega arith) in
    last_written a.alias (8 * middles a.payload.now) (13 * (middles a.payload.now + 1)) a.payload.now l.out _ bytes room whole
    _ c.read_at.result _ c.put_frame-2.new.out refl (omega arith) c.read_at.ensures c.put_frame-2.ensures (omega arith)
