-- One frame or more, by the MTI; each return is one of the ways that it can go.
use Rattle.std.proofs.Common.{arith, sym, ◌∙◌}
use Rattle.basics.specs.declared.Refusal.TheVariants.{BadContent}
use Rattle.can.proofs.Missing.{none_from_err}
use Rattle.can.proofs.Splits.{event_there, payload_there, too_small, whole_answer, more_no_room, more_answer}
use Rattle.can.proofs.splitting.put_report.Goals as goal

pub returns-in_err-event : goal.returns-in_err-event
returns-in_err-event c =
    let none = none_from_err c.args.message.event BadContent _ (sym c.ok_or.ensures.value ∙ c.in_err-event.was) in
    absurd (event_there c.args.message c.args.payload.now c.requires.payload_value none.0)

pub returns-then-out-lt13 : goal.returns-then-out-lt13
returns-then-out-lt13 c =
    let a = c.args in
    let both = too_small a.alias _ a.message a.payload.now a.out.now a.out.now c.in_ok-event.ensures.ok_part (omega arith) in
    record { result_value = both.0; out_after = both.1 }

pub returns-then-message-eq1460 : goal.returns-then-message-eq1460
returns-then-message-eq1460 c =
    let a = c.args in
    let both = whole_answer a.alias _ a.message a.payload.now a.out.now _ c.in_ok-event.ensures.ok_part c.if-message-eq1460.true (omega arith) c.put_frame.ensures in
    record { result_value = both.0; out_after = both.1 }

pub overflow_sub-size : goal.overflow_sub-size
overflow_sub-size c = omega (arith, (payload_there c.args.message c.args.payload.now c.requires.payload_value c.if-message-eq1460.false).0)

pub returns-then-out-size : goal.returns-then-out-size
returns-then-out-size c =
    let a = c.args in
    let both = more_no_room a.alias _ a.message a.payload.now a.out.now a.out.now c.in_ok-event.ensures.ok_part c.if-message-eq1460.false (omega arith) in
    record { result_value = both.0; out_after = both.1 }

pub put_pieces-requires : goal.put_pieces-requires
put_pieces-requires c =
    let there = (payload_there c.args.message c.args.payload.now c.requires.payload_value c.if-message-eq1460.false).0 in
    record { alias_bound = c.requires.alias_bound; payload_nonzero = there; payload_in_bounds = omega arith }

pub returns : goal.returns
returns c =
    let a = c.args in
    let both = more_answer a.alias _ a.message a.payload.now a.out.now _ c.in_ok-event.ensures.ok_part c.if-message-eq1460.false _ _ (omega arith) (omega arith) c.put_frame-2.ensures c.put_pieces.ensures in
    record { result_value = both.0; out_after = both.1 }
