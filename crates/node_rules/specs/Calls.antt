-- The calls on a board (document 01, "Node" and "Refusal numbers": order of the node calls).
use Rattle.std.specs.Prelude.{ℕ, Bool, false, not, ◌||◌, List, [], ◌∷◌, ◌++◌, eqb, leb, ltb, length, set}
use Rattle.basics.specs.Refusals.{Test, refuse, first_of, answered}
use Rattle.message.specs.declared.Message.{Message}
use Rattle.message.specs.declared.Saying.{Saying}
use Rattle.message.specs.Saying.{producer}
use Rattle.message.specs.Messages.{bad_node}
use Rattle.message.specs.Reading.{message_in, read_tests}
use Rattle.node_rules.specs.declared.Call.{Call}
use Rattle.node_rules.specs.declared.Call.TheVariants.{Initialise, Announce, Produce, SetStatus, Receive}
use Rattle.node_rules.specs.Boards.{Board, advertised, initialized, unknown, count, role_of, mark_of, with_marks, restarted_marks, out_of_bounds}
use Rattle.node_rules.specs.Sending.{complete_by, report, all_bytes, identifying, advertising}
use Rattle.node_rules.specs.Hearing.{heard_by, answering, matches_at}

-- The refusal or 0, the messages written, the slots that a report matches, and the board afterwards.
pub record Outcome : Type 0 where
  pub refusal : ℕ
  pub sent : List Message
  pub matches : ℕ → Bool
  pub next : Board

abbrev pub accepting : List Message → (ℕ → Bool) → Board → Outcome
accepting sent matches next = record { refusal = 0; sent = sent; matches = matches; next = next }

abbrev pub no_match : ℕ → Bool
no_match i = false

-- A refusal writes nothing, matches nothing and keeps the board.
abbrev pub refusing : Board → ℕ → Outcome
refusing b n = record { refusal = n; sent = []; matches = no_match; next = b }

-- ---- what an accepted call does

-- Slots in the automatic block become Advertised, all others Unadvertised.
abbrev pub restarted : Board → Board
restarted b = record {
  node = record { id = b.node.id; state = initialized; automatic = b.node.automatic };
  slots = with_marks b.slots (restarted_marks b.node.automatic b.slots.events b.slots.marks);
}

abbrev pub identifying_all : Board → List ℕ → Board
identifying_all b is = record { node = b.node; slots = advertising b.slots is }

abbrev pub with_status : Board → ℕ → ℕ → Board
with_status b i status = record {
  node = b.node;
  slots = record { roles = b.slots.roles; events = b.slots.events; statuses = set b.slots.statuses i status; marks = b.slots.marks };
}

-- What a message says to the board.
abbrev pub heard_in : Board → List ℕ → Saying
heard_in b bytes = heard_by b.node (message_in bytes)

-- The replies, and the board once they are written: each advertises as Announce does.
abbrev pub replies : Board → Saying → List Message
replies b s = identifying b (answering b s)

abbrev pub replied : Board → Saying → Board
replied b s = identifying_all b (answering b s)

abbrev pub matching : Board → Saying → ℕ → Bool
matching b s = matches_at b.slots.roles b.slots.events s

abbrev pub taking : Board → Saying → Outcome
taking b s = accepting (replies b s) (matching b s) (replied b s)

-- To announce a slot is to answer for it.
abbrev pub accepted : Board → Call → List ℕ → Outcome
accepted b Initialise bytes = accepting (complete_by b.node.id ∷ []) no_match (restarted b)
accepted b (Announce i) bytes = accepting (identifying b (i ∷ [])) no_match (identifying_all b (i ∷ []))
accepted b (Produce i) bytes = accepting (report b i ∷ []) no_match b
accepted b (SetStatus i status) bytes = accepting [] no_match (with_status b i status)
accepted b Receive bytes = taking b (heard_in b bytes)

-- ---- the tests, in their order

-- Node calls: 7, 3.
abbrev pub board_tests : Board → List Test
board_tests b = refuse 7 (out_of_bounds b) ∷ refuse 3 (bad_node b.node.id) ∷ []

-- How many bytes must be written.
abbrev pub size : List Message → ℕ
size sent = length (all_bytes sent)

-- 6: the output is shorter than what must be written.
abbrev pub room_tests : ℕ → ℕ → List Test
room_tests bytes room = refuse 6 (ltb room bytes) ∷ []

-- 13: replies would pass 1,024 bytes.
abbrev pub reply_tests : ℕ → ℕ → List Test
reply_tests bytes room = refuse 13 (ltb 1024 bytes) ∷ room_tests bytes room

-- 9: node not Initialized. 10: no such slot.
abbrev pub slot_tests : Board → ℕ → List Test
slot_tests b i = refuse 9 (not (eqb b.node.state initialized)) ∷ refuse 10 (leb (count b.slots) i) ∷ []

-- 11: slot is not a producer. 12: slot is not Advertised.
abbrev pub producer_tests : Board → ℕ → List Test
producer_tests b i = refuse 11 (not (eqb (role_of b.slots i) producer)) ∷ refuse 12 (not (eqb (mark_of b.slots i) advertised)) ∷ []

-- 10: no such slot, or a status to be set that isn't one of the three.
abbrev pub status_tests : Board → ℕ → ℕ → List Test
status_tests b i status = refuse 10 (leb (count b.slots) i || ltb unknown status) ∷ []

-- After those of every call, by the bytes received and the room in the output.
abbrev pub call_tests : Board → Call → List ℕ → ℕ → List Test
call_tests b Initialise bytes room = room_tests (size (complete_by b.node.id ∷ [])) room
call_tests b (Announce i) bytes room = slot_tests b i ++ reply_tests (size (identifying b (i ∷ []))) room
call_tests b (Produce i) bytes room = slot_tests b i ++ (producer_tests b i ++ reply_tests (size (report b i ∷ [])) room)
call_tests b (SetStatus i status) bytes room = status_tests b i status
call_tests b Receive bytes room = read_tests bytes ++ reply_tests (size (replies b (heard_in b bytes))) room

abbrev pub tests_of : Board → Call → List ℕ → ℕ → List Test
tests_of b call bytes room = board_tests b ++ call_tests b call bytes room

-- ---- a call

unfoldable pub outcome : Board → Call → List ℕ → ℕ → Outcome
outcome b call bytes room = answered (λ o. o) (refusing b) (first_of (tests_of b call bytes room)) (accepted b call bytes)
