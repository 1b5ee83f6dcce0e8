-- A board as the code has it: its record and its slots, as lent.
use Rattle.std.specs.Prelude.{◌≡◌, Result, Ok, Err}
use Rattle.basics.specs.declared.Refusal.{Refusal}
use Rattle.basics.specs.Refusals.{refusal_number}
use Rattle.node_rules.specs.declared.Node.{Node}
use Rattle.node.specs.declared.Answer.{Answer}
use Rattle.node.specs.Answers.{answer}
use Rattle.node_rules.specs.Boards.{Slots, Board}
use Rattle.node.specs.declared.calls.Done.{Done}
use Rattle.node.specs.declared.board.Board.{Board as Lent}
use Rattle.node.specs.Lent.{slots_of, board_of}

abbrev pub slots_in : Lent → Slots
slots_in b = slots_of b.roles.now b.events.now b.statuses.now b.marks.now

abbrev pub board_in : Lent → Board
board_in b = board_of b.node (slots_in b)

-- The record and the lists that are only read stay; the others are the ones that were lent.
pub record SameLists (b c : Lent) : Type 0 where
  pub node : b.node ≡ c.node
  pub roles : b.roles.now ≡ c.roles.now
  pub events : b.events.now ≡ c.events.now
  pub statuses : b.statuses.ghost_name ≡ c.statuses.ghost_name
  pub marks : b.marks.ghost_name ≡ c.marks.ghost_name

-- What a call on a board answers; a refusal writes nothing, matches nothing and keeps the record.
abbrev pub answer_with : Done → Answer
answer_with d = answer 0 d.messages d.bytes d.matches d.node

abbrev pub answer_in : Node → Result Done Refusal → Answer
answer_in node (Ok d) = answer_with d
answer_in node (Err r) = answer (refusal_number r) 0 0 0 node
