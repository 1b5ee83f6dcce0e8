-- A frame file: a list of aliases, and the steps that are done with it. Numbers stand high byte first (docs/FRAME-FILES.md).
use Rattle.std.specs.Prelude.{ℕ, zero, suc, ◌+◌, ◌*◌, Bool, cond, ◌&&◌, ◌||◌, List, Option, eqb, leb, length, get_or, take, drop}
use Rattle.numbers.specs.Numbers.{number_at}
use Rattle.basics.specs.Lists.{each}
use Rattle.message.specs.declared.Message.{Message}
use Rattle.message.specs.Reading.{field_at}
use Rattle.can_rules.specs.Aliases.{Aliases, listed}

-- ---- the list of aliases: pair count m 1, then m pairs of alias 2 and Node ID 8

abbrev pub pair_count : List ℕ → ℕ
pair_count s = get_or s 0 0

abbrev pub pair_at : ℕ → ℕ
pair_at i = 1 + i * 10

abbrev pub pair_alias : List ℕ → ℕ → ℕ
pair_alias s i = number_at s (pair_at i) 2

abbrev pub pair_node : List ℕ → ℕ → ℕ
pair_node s i = number_at s (pair_at i + 2) 8

abbrev pub aliases_in : List ℕ → Aliases
aliases_in s = listed (each (pair_count s) (pair_alias s)) (each (pair_count s) (pair_node s))

-- ---- the steps: step count n 2, then n steps

abbrev pub count_at : List ℕ → ℕ
count_at s = pair_at (pair_count s)

abbrev pub step_count : List ℕ → ℕ
step_count s = number_at s (count_at s) 2

abbrev pub steps_at : List ℕ → ℕ
steps_at s = count_at s + 2

-- 1 header(4) length(1) data(8) join.
abbrev pub joins : List ℕ → ℕ → Bool
joins s at = eqb (get_or s at 0) 1

-- 2 MTI(2) source(8) mark(1) destination(8) mark(1) event(8) content length(2) content room(2) split.
abbrev pub splits : List ℕ → ℕ → Bool
splits s at = eqb (get_or s at 0) 2

abbrev pub content_length : List ℕ → ℕ → ℕ
content_length s at = number_at s (at + 29) 2

abbrev pub content_at : List ℕ → ℕ → List ℕ
content_at s at = take (content_length s at) (drop (at + 31) s)

-- Room is the length of the output that is lent.
abbrev pub room_at : List ℕ → ℕ → ℕ
room_at s at = number_at s (at + 31 + content_length s at) 2

unfoldable pub size_at : List ℕ → ℕ → ℕ
size_at s at = cond (joins s at) 14 (33 + content_length s at)

-- A mark and its field, which is present where the mark is 1.
abbrev pub marked_at : List ℕ → ℕ → Option ℕ
marked_at s at = field_at (eqb (get_or s at 0) 1) s (at + 1) 8

unfoldable pub message_at : List ℕ → ℕ → Message
message_at s at = record {
  mti = number_at s (at + 1) 2;
  source = number_at s (at + 3) 8;
  destination = marked_at s (at + 11);
  event = marked_at s (at + 20);
}

-- ---- good files

-- Not cut short, no mark over 1, a content of at most 300 bytes and a room of at most 512.
unfoldable pub good_split : List ℕ → ℕ → Bool
good_split s at =
    leb (at + 33) (length s)
    && (leb (get_or s (at + 11) 0) 1
    && (leb (get_or s (at + 20) 0) 1
    && (leb (content_length s at) 300
    && (leb (at + 33 + content_length s at) (length s) && leb (room_at s at) 512))))

-- The shorter of the two steps has 14 bytes.
unfoldable pub good_step : List ℕ → ℕ → Bool
good_step s at = leb (at + 14) (length s) && (joins s at || (splits s at && good_split s at))

-- So many steps, and nothing left over.
unfoldable pub good_steps : ℕ → List ℕ → ℕ → Bool
good_steps zero s at = eqb at (length s)
good_steps (suc n) s at = good_step s at && good_steps n s (at + size_at s at)

abbrev pub most_steps : ℕ
most_steps = 1000

-- At most 65,536 bytes and 1,000 steps.
unfoldable pub good_file : List ℕ → Bool
good_file s =
    leb (length s) 65536
    && (leb 1 (length s) && (leb (steps_at s) (length s) && (leb (step_count s) most_steps && good_steps (step_count s) s (steps_at s))))
