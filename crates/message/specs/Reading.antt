-- What reading a byte string answers (document 01, "Messages"; order of refusals when reading).
use Rattle.std.specs.Prelude.{ℕ, Bool, cond, List, ◌∷◌, ltb, length, drop, Option, Some, None, Result, Ok, Err}
use Rattle.numbers.specs.Numbers.{number_at}
use Rattle.message.specs.declared.Message.{Message}
use Rattle.message.specs.Mti.{addressed, carries_event, event_at, content_at, barred}
use Rattle.message.specs.Messages.{content_tests}
use Rattle.basics.specs.Refusals.{Test, refuse, first_of, answered, Told, told_by}

abbrev pub field_at : Bool → List ℕ → ℕ → ℕ → Option ℕ
field_at flag s at w = cond flag (Some (number_at s at w)) None

abbrev pub mti_in : List ℕ → ℕ
mti_in s = number_at s 0 2

-- The fields that an MTI flags, each where document 01 puts it.
unfoldable pub fields_in : ℕ → List ℕ → Message
fields_in m s = record {
  mti = m;
  source = number_at s 2 6;
  destination = field_at (addressed m) s 8 6;
  event = field_at (carries_event m) s (event_at m) 8;
}

abbrev pub message_in : List ℕ → Message
message_in s = fields_in (mti_in s) s

abbrev pub content_in : List ℕ → List ℕ
content_in s = drop (content_at (mti_in s)) s

-- Refusal 1: under 2 bytes, or too few for the fields the MTI flags.
abbrev pub short : List ℕ → Bool
short s = ltb (length s) 2

abbrev pub misses_fields : List ℕ → Bool
misses_fields s = ltb (length s) (content_at (mti_in s))

-- Order when reading: 1 for under 2 bytes, 2, 1 for missing fields, 3, 4, 5.
abbrev pub read_tests : List ℕ → List Test
read_tests s = refuse 1 (short s) ∷ refuse 2 (barred (mti_in s)) ∷ refuse 1 (misses_fields s) ∷ content_tests (message_in s) (content_in s)

-- What reading a byte string tells: 0 and the message, or the refusal's number and nothing beside it.
unfoldable pub read_told : List ℕ → Told (List Message)
read_told s = told_by (read_tests s) (message_in s)

-- The one answer that tells so.
unfoldable pub read_of : List ℕ → Result Message ℕ
read_of s = answered Ok Err (first_of (read_tests s)) (message_in s)
