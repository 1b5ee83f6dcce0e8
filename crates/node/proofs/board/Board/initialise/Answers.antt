-- The room, then the marks and the message.
use mathlib.Core.Path.{◌∙◌}
use mathlib.Core.List.{[]}
use Rattle.basics.specs.declared.Refusal.TheVariants.{NoRoom}
use Rattle.node_rules.specs.declared.Call.TheVariants.{Initialise}
use Rattle.node.specs.Boards.{board_in}
use Rattle.node.proofs.Calling.{call_refused, call_accepted}
use Rattle.node.proofs.Tests.{initialise_full, initialise_fits, initialise_answer, initialise_bytes}
use Rattle.node.proofs.board.Board.initialise.Goals as goal

pub returns-then-out-lt14-clause-left : goal.returns-then-out-lt14-clause-left
returns-then-out-lt14-clause-left c =
    let b = c.args.self.now in
    call_refused (board_in b) Initialise [] c.args.out.now NoRoom (initialise_full (board_in b) b.checked.node [] c.if-out-lt14.true)

pub returns-clause-left : goal.returns-clause-left
returns-clause-left c =
    let b = c.args.self.now in
    let out = c.args.out.now in
    let good = b.checked.node in
    call_accepted (board_in b) Initialise [] out (initialise_fits (board_in b) good [] c.if-out-lt14.false) (initialise_answer (board_in b) good []) c.restart.ensures.slots (c.complete.ensures ∙ initialise_bytes (board_in b) good [] out)
