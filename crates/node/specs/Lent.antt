-- The slots in the lists that a caller lends: `slots_of` the four lists as a clause has them, at entry (`x.now` or `x.old`) and at exit (`x.now` or `x.new`).
use Rattle.std.specs.Prelude.{ℕ, ◌≡◌, ◌≤◌, true, false, List, length}
use Rattle.range.specs.Range.{is_block}
use Rattle.message.specs.Messages.{bad_node}
use Rattle.node_rules.specs.declared.Node.{Node}
use Rattle.node_rules.specs.Boards.{Slots, Board, count}

abbrev pub slots_of : List ℕ → List ℕ → List ℕ → List ℕ → Slots
slots_of roles events statuses marks = record { roles = roles; events = events; statuses = statuses; marks = marks }

-- A record and its slots as a board.
abbrev pub board_of : Node → Slots → Board
board_of node slots = record { node = node; slots = slots }

-- What the parts of the code rely on: four lists of one length.
pub record EqualLengths (s : Slots) : Type 0 where
  pub events : length s.events ≡ length s.roles
  pub statuses : length s.statuses ≡ length s.roles
  pub marks : length s.marks ≡ length s.roles

-- What a board has that passes the tests of every call.
pub record Checked (b : Board) : Type 0 where
  pub node : bad_node b.node.id ≡ false
  pub block : is_block b.node.automatic ≡ true
  pub lengths : EqualLengths b.slots
  pub few : count b.slots ≤ 64
