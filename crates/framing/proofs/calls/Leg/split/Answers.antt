-- The message that the step says, with its content, on the output's first bytes.
use Prim.Native.Nat.{ℕ}
use mathlib.Core.Path.{◌≡◌, sym, ap, ◌∙◌}
use native.Mathlib.Omega.{arith}
use lib.Seq.{length-take-le}
use Rattle.basics.specs.Refusals.{refusal_number, in_numbers}
use Rattle.basics.specs.declared.Refusal.{Refusal}
use Rattle.std.specs.Prelude.{Result, Ok, Err}
use Rattle.std.specs.Result.{IsErrAnd}
use Rattle.framing.proofs.Good.{good_whole}
use Rattle.framing.proofs.Showing.{content_read, room_read, split_at_left}
use Rattle.framing.proofs.calls.Leg.split.Goals as goal

pub overflow_add-end : goal.overflow_add-end
overflow_add-end c = omega (arith, c.read_at.ensures, (good_whole c.args.file.now c.args.at c.requires.2).whole)

pub message_at-message-requires : goal.message_at-message-requires
message_at-message-requires c = (omega (arith, (good_whole c.args.file.now c.args.at c.requires.2).head), c.requires.1)

pub slice_bounds-content-end : goal.slice_bounds-content-end
slice_bounds-content-end c = omega (arith, c.read_at.ensures, (good_whole c.args.file.now c.args.at c.requires.2).whole)

pub slice_bounds-split-end : goal.slice_bounds-split-end
slice_bounds-split-end c =
    let room = room_read c.args.file.now c.args.at c.read_at.ensures c.read_at-room.ensures in
    omega (arith, room, (good_whole c.args.file.now c.args.at c.requires.2).room, c.requires.3)

pub slice_bounds-split-end-2 : goal.slice_bounds-split-end-2
slice_bounds-split-end-2 c =
    let room = room_read c.args.file.now c.args.at c.read_at.ensures c.read_at-room.ensures in
    sym (length-take-le c.read_at-room.result c.args.out.now (omega (arith, room, (good_whole c.args.file.now c.args.at c.requires.2).room, c.requires.3)))

-- The refusal in its number.
refusal_told : (r : Result ℕ ℕ) (refusal : Refusal) → IsErrAnd r (λ n. n ≡ refusal_number refusal) → in_numbers {A = ℕ} (Err refusal) ≡ r
refusal_told (Ok n) refusal h = absurd h
refusal_told (Err n) refusal h = ap Err (sym h)

pub returns-in_err-split : goal.returns-in_err-split
returns-in_err-split c =
    let s = c.args.file.now in
    let room = room_read s c.args.at c.read_at.ensures c.read_at-room.ensures in
    let few = (good_whole s c.args.at c.requires.2).room in
    let told = refusal_told c.from_residual.result c.in_err-split.field-0.0 c.from_residual.ensures.1 in
    split_at_left _ s c.args.at c.args.self.now.state _ _ c.message_at-message.ensures (content_read s c.args.at c.read_at.ensures) room (length-take-le c.read_at-room.result c.args.out.now (omega (arith, room, few, c.requires.3))) (omega (arith, room, few)) (ap in_numbers c.in_err-split.was ∙ told) c.split.ensures.result_value c.split.ensures.out_after c.split.auto.out

pub returns : goal.returns
returns c =
    let s = c.args.file.now in
    let room = room_read s c.args.at c.read_at.ensures c.read_at-room.ensures in
    let few = (good_whole s c.args.at c.requires.2).room in
    split_at_left _ s c.args.at c.args.self.now.state _ _ c.message_at-message.ensures (content_read s c.args.at c.read_at.ensures) room (length-take-le c.read_at-room.result c.args.out.now (omega (arith, room, few, c.requires.3))) (omega (arith, room, few)) (ap in_numbers c.in_ok-split.was) c.split.ensures.result_value c.split.ensures.out_after c.split.auto.out
