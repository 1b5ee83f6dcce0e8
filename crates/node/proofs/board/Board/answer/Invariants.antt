-- The replies of the slots below i are written and marked.
use mathlib.Core.Path.{◌≡◌}
use Rattle.node.specs.Boards.{board_in, SameLists}
use Rattle.node.proofs.Replying.{Replied, answerers}
use Rattle.node.proofs.board.Board.answer.Given as goal

abbrev pub invariant-loop-i : goal.invariant-loop-i
invariant-loop-i l =
    let b = board_in l.initial.self in
    record {
      same : SameLists l.initial.self l.self;
      statuses : l.self.statuses.now ≡ l.initial.self.statuses.now;
      replied : Replied b l.initial.out (answerers b l.heard l.i) l.self.marks.now l.at l.out;
    }
