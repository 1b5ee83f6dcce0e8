-- A board file: a board, and the calls that it is put through. Numbers stand high byte first (docs/BOARD-FILES.md).
use Rattle.std.specs.Prelude.{ℕ, zero, suc, ◌+◌, ◌-◌, ◌*◌, Bool, cond, ◌&&◌, ◌||◌, List, eqb, leb, length, get_or, take, drop}
use Rattle.range.specs.Range.{block_of}
use Rattle.numbers.specs.Numbers.{number_at}
use Rattle.node_rules.specs.declared.Call.{Call}
use Rattle.node_rules.specs.declared.Call.TheVariants.{Initialise, Announce, Produce, SetStatus, Receive}
use Rattle.node_rules.specs.Boards.{Board, not_initialized, unadvertised}
use Rattle.basics.specs.Lists.{each}
use Rattle.node_rules.specs.Calls.{Outcome, outcome}

-- ---- the board: Node ID 8, range number of the automatic block 8, slot count n 1, then n slots of role 1, Event ID 8, status 1

abbrev pub slot_count : List ℕ → ℕ
slot_count s = get_or s 16 0

abbrev pub slot_at : ℕ → ℕ
slot_at i = 17 + i * 10

abbrev pub role_in : List ℕ → ℕ → ℕ
role_in s i = get_or s (slot_at i) 0

abbrev pub event_in : List ℕ → ℕ → ℕ
event_in s i = number_at s (slot_at i + 1) 8

abbrev pub status_in : List ℕ → ℕ → ℕ
status_in s i = get_or s (slot_at i + 9) 0

-- The node starts not Initialized with every mark clear.
abbrev pub board_in : List ℕ → Board
board_in s = record {
  node = record { id = number_at s 0 8; state = not_initialized; automatic = block_of (number_at s 8 8) };
  slots = record {
    roles = each (slot_count s) (role_in s);
    events = each (slot_count s) (event_in s);
    statuses = each (slot_count s) (status_in s);
    marks = each (slot_count s) (λ _. unadvertised);
  };
}

-- ---- the calls, to the end of the file

abbrev pub calls_at : List ℕ → ℕ
calls_at s = slot_at (slot_count s)

-- Which call stands at a place.
abbrev pub call_in : List ℕ → ℕ → ℕ
call_in s at = get_or s at 0

abbrev pub message_length : List ℕ → ℕ → ℕ
message_length s at = number_at s (at + 3) 2

-- 1 room(2) initialise; 2 room(2) slot(1) announce; 3 room(2) slot(1) produce; 4 slot(1) status(1) set status; 5 room(2) length(2) message receive.
abbrev pub head_size : ℕ → ℕ
head_size call = cond (eqb call 1 || eqb call 4) 3 (cond (eqb call 5) 5 4)

unfoldable pub size_at : List ℕ → ℕ → ℕ
size_at s at = head_size (call_in s at) + cond (eqb (call_in s at) 5) (message_length s at) 0

unfoldable pub call_at : List ℕ → ℕ → Call
call_at s at =
    cond (eqb (call_in s at) 1) Initialise
    (cond (eqb (call_in s at) 2) (Announce (get_or s (at + 3) 0))
    (cond (eqb (call_in s at) 3) (Produce (get_or s (at + 3) 0))
    (cond (eqb (call_in s at) 4) (SetStatus (get_or s (at + 1) 0) (get_or s (at + 2) 0)) Receive)))

-- Room is the length of the output lent. To set a status is lent none.
unfoldable pub room_at : List ℕ → ℕ → ℕ
room_at s at = cond (eqb (call_in s at) 4) 0 (number_at s (at + 1) 2)

-- What follows a call's head: the message to be received, and nothing for the other calls.
abbrev pub message_at : List ℕ → ℕ → List ℕ
message_at s at = take (size_at s at - head_size (call_in s at)) (drop (at + head_size (call_in s at)) s)

unfoldable pub outcome_at : Board → List ℕ → ℕ → Outcome
outcome_at b s at = outcome b (call_at s at) (message_at s at) (room_at s at)

-- ---- good files

-- One of the five calls, not cut short, with a room of at most 2,048.
unfoldable pub good_call : List ℕ → ℕ → Bool
good_call s at =
    (leb 1 (call_in s at) && leb (call_in s at) 5)
    && (leb (at + head_size (call_in s at)) (length s)
    && (leb (at + size_at s at) (length s) && leb (room_at s at) 2048))

-- At most so many calls, to the end of the file.
unfoldable pub good_calls : ℕ → List ℕ → ℕ → Bool
good_calls zero s at = leb (length s) at
good_calls (suc n) s at = leb (length s) at || (good_call s at && good_calls n s (at + size_at s at))

abbrev pub most_calls : ℕ
most_calls = 1000

-- At most 65,536 bytes, 100 slots and 1,000 calls.
unfoldable pub good_file : List ℕ → Bool
good_file s =
    leb (length s) 65536
    && (leb 17 (length s) && (leb (slot_count s) 100 && (leb (calls_at s) (length s) && good_calls most_calls s (calls_at s))))
