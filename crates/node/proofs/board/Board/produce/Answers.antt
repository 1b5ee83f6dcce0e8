-- The tests in their order, then the report.
use mathlib.Core.Path.{refl, sym, ◌∙◌}
use mathlib.Core.List.{[]}
use lib.ListN.{length}
use Rattle.basics.specs.declared.Refusal.TheVariants.{NotAProducer, NotAdvertised}
use Rattle.node_rules.specs.declared.Call.TheVariants.{Produce}
use Rattle.node_rules.proofs.Pieces.{report_plain}
use Rattle.node.specs.Boards.{board_in}
use Rattle.node.proofs.Calling.{call_refused, call_left, call_accepted}
use Rattle.node.proofs.Tests.{produce_slot, produce_consumer, produce_unadvertised, produce_room, produce_answer, produce_bytes}
use Rattle.node.proofs.board.Board.produce.Goals as goal

pub returns-in_err-check_slot : goal.returns-in_err-check_slot
returns-in_err-check_slot c =
    let b = board_in c.args.self.now in
    let i = c.args.slot in
    let out = c.args.out.now in
    call_left b (Produce i) [] out c.from_residual.result _ c.from_residual.ensures.1 (produce_slot b i [] (length out) _ c.in_err-check_slot.ensures)

pub returns-then-self-slot-ne-PRODUCER : goal.returns-then-self-slot-ne-PRODUCER
returns-then-self-slot-ne-PRODUCER c =
    let b = board_in c.args.self.now in
    let i = c.args.slot in
    let out = c.args.out.now in
    call_refused b (Produce i) [] out NotAProducer (produce_consumer b i [] (length out) c.in_ok-check_slot.ensures c.if-self-slot-ne-PRODUCER.true)

pub returns-then-self-slot-ne-ADVERTISED : goal.returns-then-self-slot-ne-ADVERTISED
returns-then-self-slot-ne-ADVERTISED c =
    let b = board_in c.args.self.now in
    let i = c.args.slot in
    let out = c.args.out.now in
    call_refused b (Produce i) [] out NotAdvertised (produce_unadvertised b i [] (length out) c.in_ok-check_slot.ensures c.if-self-slot-ne-PRODUCER.false c.if-self-slot-ne-ADVERTISED.true)

pub returns-in_err-check_room : goal.returns-in_err-check_room
returns-in_err-check_room c =
    let b = board_in c.args.self.now in
    let i = c.args.slot in
    let out = c.args.out.now in
    call_left b (Produce i) [] out c.from_residual-in_err-check_room.result _ c.from_residual-in_err-check_room.ensures.1 (produce_room b i [] (length out) c.in_ok-check_slot.ensures c.if-self-slot-ne-PRODUCER.false c.if-self-slot-ne-ADVERTISED.false ∙ sym c.in_err-check_room.ensures)

pub put-requires-clause-plain : goal.put-requires-clause-plain
put-requires-clause-plain c = report_plain

pub returns : goal.returns
returns c =
    let b = board_in c.args.self.now in
    let i = c.args.slot in
    let out = c.args.out.now in
    call_accepted b (Produce i) [] out (produce_room b i [] (length out) c.in_ok-check_slot.ensures c.if-self-slot-ne-PRODUCER.false c.if-self-slot-ne-ADVERTISED.false ∙ sym c.in_ok-check_room.ensures) (c.wrote.ensures ∙ produce_answer b i []) refl (c.put.ensures ∙ produce_bytes b i [] out)
