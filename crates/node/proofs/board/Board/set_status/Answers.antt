-- The tests in their order, then the status.
use mathlib.Core.Path.{refl, ◌∙◌}
use mathlib.Core.List.{[]}
use lib.ListN.{length}
use Rattle.basics.specs.declared.Refusal.TheVariants.{NoSuchSlot}
use Rattle.node_rules.specs.declared.Call.TheVariants.{SetStatus}
use Rattle.node.specs.Boards.{board_in}
use Rattle.node.proofs.Calling.{call_refused, call_accepted}
use Rattle.node.proofs.Tests.{status_no_slot, status_bad, status_good, status_answer}
use Rattle.node.proofs.board.Board.set_status.Goals as goal
use Rattle.node.proofs.board.Board.set_status.Goals.{then-self-slot-via-then-self-slot, then-self-slot-via-else-self-slot+then-status-gt-UNKNOWN}

pub returns-then-self-slot-clause-left : goal.returns-then-self-slot-clause-left
returns-then-self-slot-clause-left c =
    let b = board_in c.args.self.now in
    λ out. call_refused b (SetStatus c.args.slot c.args.status) [] out NoSuchSlot (elim c.then-self-slot.branch [
      | then-self-slot-via-then-self-slot w ↦ status_no_slot b c.args.slot c.args.status [] (length out) w.if-self-slot.true
      | then-self-slot-via-else-self-slot+then-status-gt-UNKNOWN w ↦ status_bad b c.args.slot c.args.status [] (length out) w.if-status-gt-UNKNOWN.true
    ])

pub returns-clause-left : goal.returns-clause-left
returns-clause-left c =
    let b = board_in c.args.self.now in
    λ out. call_accepted b (SetStatus c.args.slot c.args.status) [] out (status_good b c.args.slot c.args.status [] (length out) c.if-self-slot.false c.if-status-gt-UNKNOWN.false) (c.wrote.ensures ∙ status_answer b c.args.slot c.args.status []) refl refl
