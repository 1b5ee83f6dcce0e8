use Rattle.std.proofs.Common.{refl, ◌∙◌, sym}
use Rattle.can_aliases.specs.Parts.{list_in}
use Rattle.can.proofs.Answers.{bad_list, bad_state, other_header, sender_named, sender_unlisted, sender_done}
use Rattle.can.proofs.parts.take.Goals as goal
use Rattle.can.proofs.parts.take.Goals.{then-out_of_bounds-via-then-out_of_bounds, then-out_of_bounds-via-else-out_of_bounds+then-out_of_bounds-2}

pub returns-then-out_of_bounds-clause-seen : goal.returns-then-out_of_bounds-clause-seen
returns-then-out_of_bounds-clause-seen c =
    let l = list_in c.args.list.now in
    elim c.then-out_of_bounds.branch [
      | then-out_of_bounds-via-then-out_of_bounds w ↦ bad_list l c.args.state.now c.args.frame (sym c.out_of_bounds.ensures ∙ w.if-out_of_bounds.true)
      | then-out_of_bounds-via-else-out_of_bounds+then-out_of_bounds-2 w ↦
          bad_state l c.args.state.now c.args.frame (sym c.out_of_bounds.ensures ∙ w.if-out_of_bounds.false) (sym w.out_of_bounds-else-out_of_bounds.ensures ∙ w.if-out_of_bounds-2.true)
    ]

pub returns-in-OtherHeader-clause-seen : goal.returns-in-OtherHeader-clause-seen
returns-in-OtherHeader-clause-seen c =
    other_header (list_in c.args.list.now) c.args.state.now c.args.frame (sym c.if-out_of_bounds.ensures) (sym c.if-out_of_bounds-2.ensures) (sym c.in-OtherHeader.ensures)

pub returns-in_err-sender-in-Whole-clause-seen : goal.returns-in_err-sender-in-Whole-clause-seen
returns-in_err-sender-in-Whole-clause-seen c = sender_unlisted _ _ _ c.if-out_of_bounds.ensures c.if-out_of_bounds-2.ensures c.node_for.ensures.item c.ok_or-sender.ensures.value _ c.in_err-sender-in-Whole.was c.from_residual.ensures.1 c.in-Whole.ensures refl

pub whole-requires : goal.whole-requires
whole-requires c = sender_named _ _ c.args.frame c.if-out_of_bounds.ensures c.if-out_of_bounds-2.ensures c.node_for.ensures.item c.ok_or-sender.ensures.value c.in_ok-sender-in-Whole.was

pub returns-in_ok-sender-in-Whole-clause-seen : goal.returns-in_ok-sender-in-Whole-clause-seen
returns-in_ok-sender-in-Whole-clause-seen c = sender_done _ _ _ c.if-out_of_bounds.ensures c.if-out_of_bounds-2.ensures c.node_for.ensures.item c.ok_or-sender.ensures.value c.in_ok-sender-in-Whole.was c.in-Whole.ensures refl (c.whole.ensures c.args.state.now).0

pub returns-in_err-sender-in-Start-clause-seen : goal.returns-in_err-sender-in-Start-clause-seen
returns-in_err-sender-in-Start-clause-seen c = sender_unlisted _ _ _ c.if-out_of_bounds.ensures c.if-out_of_bounds-2.ensures c.node_for.ensures.item c.ok_or-sender.ensures.value _ c.in_err-sender-in-Start.was c.from_residual-in_err-sender-in-Start.ensures.1 c.in-Start.ensures refl

pub start-requires : goal.start-requires
start-requires c = (sender_named _ _ c.args.frame c.if-out_of_bounds.ensures c.if-out_of_bounds-2.ensures c.node_for.ensures.item c.ok_or-sender.ensures.value c.in_ok-sender-in-Start.was, sym c.if-out_of_bounds-2.ensures)

pub returns-in_ok-sender-in-Start-clause-seen : goal.returns-in_ok-sender-in-Start-clause-seen
returns-in_ok-sender-in-Start-clause-seen c = sender_done _ _ _ c.if-out_of_bounds.ensures c.if-out_of_bounds-2.ensures c.node_for.ensures.item c.ok_or-sender.ensures.value c.in_ok-sender-in-Start.was c.in-Start.ensures refl c.start.ensures.0

pub returns-in_err-sender-in-Middle-clause-seen : goal.returns-in_err-sender-in-Middle-clause-seen
returns-in_err-sender-in-Middle-clause-seen c = sender_unlisted _ _ _ c.if-out_of_bounds.ensures c.if-out_of_bounds-2.ensures c.node_for.ensures.item c.ok_or-sender.ensures.value _ c.in_err-sender-in-Middle.was c.from_residual-in_err-sender-in-Middle.ensures.1 c.in-Middle.ensures refl

pub middle-requires : goal.middle-requires
middle-requires c = (sender_named _ _ c.args.frame c.if-out_of_bounds.ensures c.if-out_of_bounds-2.ensures c.node_for.ensures.item c.ok_or-sender.ensures.value c.in_ok-sender-in-Middle.was, sym c.if-out_of_bounds-2.ensures)

pub returns-in_ok-sender-in-Middle-clause-seen : goal.returns-in_ok-sender-in-Middle-clause-seen
returns-in_ok-sender-in-Middle-clause-seen c = sender_done _ _ _ c.if-out_of_bounds.ensures c.if-out_of_bounds-2.ensures c.node_for.ensures.item c.ok_or-sender.ensures.value c.in_ok-sender-in-Middle.was c.in-Middle.ensures refl c.middle.ensures.0

pub returns-in_err-sender-in-Last-clause-seen : goal.returns-in_err-sender-in-Last-clause-seen
returns-in_err-sender-in-Last-clause-seen c = sender_unlisted _ _ _ c.if-out_of_bounds.ensures c.if-out_of_bounds-2.ensures c.node_for.ensures.item c.ok_or-sender.ensures.value _ c.in_err-sender-in-Last.was c.from_residual-in_err-sender-in-Last.ensures.1 c.in-Last.ensures refl

pub last-requires : goal.last-requires
last-requires c = (sender_named _ _ c.args.frame c.if-out_of_bounds.ensures c.if-out_of_bounds-2.ensures c.node_for.ensures.item c.ok_or-sender.ensures.value c.in_ok-sender-in-Last.was, sym c.if-out_of_bounds-2.ensures)

pub returns-in_ok-sender-in-Last-clause-seen : goal.returns-in_ok-sender-in-Last-clause-seen
returns-in_ok-sender-in-Last-clause-seen c = sender_done _ _ _ c.if-out_of_bounds.ensures c.if-out_of_bounds-2.ensures c.node_for.ensures.item c.ok_or-sender.ensures.value c.in_ok-sender-in-Last.was c.in-Last.ensures refl c.last.ensures.0
