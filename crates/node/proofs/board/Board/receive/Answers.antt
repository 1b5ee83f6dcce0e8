-- The tests in their order, then the replies.
use Prim.Native.Nat.{◌*◌}
use mathlib.Core.Path.{sym, ap, ◌∙◌}
use lib.ListN.{length}
use Rattle.numbers.specs.Numbers.{pasted}
use Rattle.basics.specs.Refusals.{in_numbers}
use Rattle.message.specs.declared.Saying.{Saying}
use Rattle.message.proofs.Tellings.{read_once}
use Rattle.node_rules.specs.declared.Call.TheVariants.{Receive}
use Rattle.node_rules.specs.Boards.{Board}
use Rattle.node_rules.specs.Sending.{all_bytes}
use Rattle.node_rules.specs.Calls.{replied, replies, taking}
use Rattle.node.specs.Answers.{answer_of}
use Rattle.node.specs.Boards.{board_in}
use Rattle.node.proofs.Limits.{room_enough}
use Rattle.node.proofs.Calling.{call_left, call_accepted}
use Rattle.node.proofs.Receiving.{few_answer, answers_fit, taking_answer, receive_unread, receive_room, heard_in_lem}
use Rattle.node.proofs.board.Board.receive.Goals as goal

pub returns-in_err-message-clause-left : goal.returns-in_err-message-clause-left
returns-in_err-message-clause-left c =
    let b = board_in c.args.self.now in
    let bytes = c.args.bytes.now in
    let out = c.args.out.now in
    call_left b Receive bytes out c.from_residual.result _ c.from_residual.ensures.1 (receive_unread b bytes (length out) _ (sym (read_once _ bytes c.read.ensures) ∙ ap in_numbers c.in_err-message.was))

pub check_room-requires : goal.check_room-requires
check_room-requires c =
    let s = c.args.self.now in
    few_answer (board_in s) c.heard_by-heard.result c.count_answers-count.result c.count_answers-count.ensures s.checked.few

pub returns-in_err-check_room-clause-left : goal.returns-in_err-check_room-clause-left
returns-in_err-check_room-clause-left c =
    let b = board_in c.args.self.now in
    let bytes = c.args.bytes.now in
    let out = c.args.out.now in
    let read = sym (read_once _ bytes c.read.ensures) ∙ ap in_numbers c.in_ok-message.was in
    let left = c.from_residual-in_err-check_room in
    call_left b Receive bytes out left.result _ left.ensures.1 (receive_room b bytes (length out) _ read c.heard_by-heard.result c.heard_by-heard.ensures c.count_answers-count.result c.count_answers-count.ensures ∙ sym c.in_err-check_room.ensures)

pub answer-requires : goal.answer-requires
answer-requires c =
    let n = c.count_answers-count.result in
    answers_fit (board_in c.args.self.now) c.heard_by-heard.result n c.count_answers-count.ensures _ (room_enough (n * 16) _ c.in_ok-check_room.ensures)

pub returns-clause-left : goal.returns-clause-left
returns-clause-left c =
    let b = board_in c.args.self.now in
    let bytes = c.args.bytes.now in
    let out = c.args.out.now in
    let heard = c.heard_by-heard.result in
    let n = c.count_answers-count.result in
    let counted = c.count_answers-count.ensures in
    let read = sym (read_once _ bytes c.read.ensures) ∙ ap in_numbers c.in_ok-message.was in
    let same = heard_in_lem b bytes (length out) _ read heard c.heard_by-heard.ensures in
    call_accepted b Receive bytes out (receive_room b bytes (length out) _ read heard c.heard_by-heard.ensures n counted ∙ sym c.in_ok-check_room.ensures) (c.wrote.ensures ∙ taking_answer b heard n counted c.matches-matches.result c.matches-matches.ensures ∙ ap (λ (x : Saying). answer_of (taking b x)) same) (ap (λ (x : Board). x.slots) c.answer.ensures.board ∙ ap (λ (x : Saying). (replied b x).slots) same) (c.answer.ensures.out_after ∙ ap (λ (x : Saying). pasted 0 (all_bytes (replies b x)) out) same)
