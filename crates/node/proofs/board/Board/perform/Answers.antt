-- The call that is named.
use Rattle.node.specs.Boards.{board_in}
use Rattle.node.proofs.Calling.{call_named}
use Rattle.node.proofs.board.Board.perform.Goals as goal

pub returns-in-Initialise-clause-left : goal.returns-in-Initialise-clause-left
returns-in-Initialise-clause-left c = call_named (board_in c.args.self.now) c.args.bytes.now c.args.out.now c.in-Initialise.is c.initialise.ensures.left

pub returns-in-Announce-clause-left : goal.returns-in-Announce-clause-left
returns-in-Announce-clause-left c = call_named (board_in c.args.self.now) c.args.bytes.now c.args.out.now c.in-Announce.is c.announce.ensures.left

pub returns-in-Produce-clause-left : goal.returns-in-Produce-clause-left
returns-in-Produce-clause-left c = call_named (board_in c.args.self.now) c.args.bytes.now c.args.out.now c.in-Produce.is c.produce.ensures

pub returns-in-SetStatus-clause-left : goal.returns-in-SetStatus-clause-left
returns-in-SetStatus-clause-left c = call_named (board_in c.args.self.now) c.args.bytes.now c.args.out.now c.in-SetStatus.is (c.set_status.ensures.left c.args.out.now)

pub returns-in-Receive-clause-left : goal.returns-in-Receive-clause-left
returns-in-Receive-clause-left c = call_named (board_in c.args.self.now) c.args.bytes.now c.args.out.now c.in-Receive.is c.receive.ensures.left
