-- The tests in their order, then the message and the marks.
use mathlib.Core.Path.{sym, ◌∙◌}
use mathlib.Core.List.{[]}
use lib.ListN.{length}
use Rattle.node_rules.specs.declared.Call.TheVariants.{Announce}
use Rattle.node.specs.Boards.{board_in}
use Rattle.node.proofs.Calling.{call_left, call_accepted}
use Rattle.node.proofs.Tests.{announce_slot, announce_room, announce_answer, announce_bytes}
use Rattle.node.proofs.board.Board.announce.Goals as goal

pub returns-in_err-check_slot-clause-left : goal.returns-in_err-check_slot-clause-left
returns-in_err-check_slot-clause-left c =
    let b = board_in c.args.self.now in
    let i = c.args.slot in
    let out = c.args.out.now in
    call_left b (Announce i) [] out c.from_residual.result _ c.from_residual.ensures.1 (announce_slot b i [] (length out) _ c.in_err-check_slot.ensures)

pub returns-in_err-check_room-clause-left : goal.returns-in_err-check_room-clause-left
returns-in_err-check_room-clause-left c =
    let b = board_in c.args.self.now in
    let i = c.args.slot in
    let out = c.args.out.now in
    call_left b (Announce i) [] out c.from_residual-in_err-check_room.result _ c.from_residual-in_err-check_room.ensures.1 (announce_room b i [] (length out) c.in_ok-check_slot.ensures ∙ sym c.in_err-check_room.ensures)

pub returns-clause-left : goal.returns-clause-left
returns-clause-left c =
    let b = board_in c.args.self.now in
    let i = c.args.slot in
    let out = c.args.out.now in
    call_accepted b (Announce i) [] out (announce_room b i [] (length out) c.in_ok-check_slot.ensures ∙ sym c.in_ok-check_room.ensures) (c.wrote.ensures ∙ announce_answer b i []) c.identify.ensures.slots (c.identify.ensures.out_after ∙ announce_bytes b i [] out)
