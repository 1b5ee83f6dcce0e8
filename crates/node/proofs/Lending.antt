-- A board as lent, after calls that keep its record and the lists that are only read.
use Prim.Native.Nat.{ℕ}
use mathlib.Core.Path.{◌≡◌, ◌∙◌, sym}
use mathlib.Core.List.{List}
use Rattle.message.specs.declared.Saying.{Saying}
use Rattle.node_rules.specs.Boards.{with_marks}
use Rattle.node.specs.declared.board.Board.{Board}
use Rattle.node.specs.Lent.{slots_of, board_of}
use Rattle.node.specs.Boards.{slots_in, board_in, SameLists}
use Rattle.node.proofs.Replying.{answers_by}

pub same_all : {a b c : Board} → SameLists a b → SameLists b c → SameLists a c
same_all s t = record {
  node = s.node ∙ t.node;
  roles = s.roles ∙ t.roles;
  events = s.events ∙ t.events;
  statuses = s.statuses ∙ t.statuses;
  marks = s.marks ∙ t.marks;
}

-- The lists that were lent are the board's own, before a call and after it.
pub same_slots : {roles events statuses marks : List ℕ} (b : Board) → roles ≡ b.roles.now → events ≡ b.events.now → statuses ≡ b.statuses.now → marks ≡ b.marks.now
    → slots_of roles events statuses marks ≡ slots_in b
same_slots b r e s m j = slots_of (r j) (e j) (s j) (m j)

module _ {b c : Board} (same : SameLists b c) where
  pub same_answers : (s : Saying) (i : ℕ) → answers_by (board_in b) s i ≡ answers_by (board_in c) s i
  same_answers s i j = answers_by (board_of (same.node j) (slots_of (same.roles j) (same.events j) b.statuses.now b.marks.now)) s i

  pub same_board : c.statuses.now ≡ b.statuses.now → board_in c ≡ board_of b.node (with_marks (slots_in b) c.marks.now)
  same_board e j = board_of (sym same.node j) (slots_of (sym same.roles j) (sym same.events j) (e j) c.marks.now)
