-- A message and its bytes (document 01, "Messages" and "Refusal numbers").
use Rattle.std.specs.Prelude.{ℕ, ◌^◌, ◌<◌, Bool, false, not, ◌&&◌, ◌||◌, List, [], ◌∷◌, ◌++◌, eqb, leb, ltb, length, Option, Some, None}
use Rattle.numbers.specs.Numbers.{number_in, bytes_of}
use Rattle.message.specs.declared.Message.{Message}
use Rattle.message.specs.Mti.{addressed, carries_event, is_restart, meaning_of, kind_of}
use Rattle.basics.specs.Refusals.{Test, refuse}

-- A field of w bytes, where it is present.
abbrev pub field_bytes : ℕ → Option ℕ → List ℕ
field_bytes w (Some x) = bytes_of w x
field_bytes w None = []

-- A field whose number, where it is present, is below n.
abbrev pub Below : ℕ → Option ℕ → Type 0
Below n (Some x) = x < n
Below n None = Unit {0}

abbrev pub message_bytes : Message → List ℕ → List ℕ
message_bytes m content = bytes_of 2 m.mti ++ (bytes_of 6 m.source ++ (field_bytes 6 m.destination ++ (field_bytes 8 m.event ++ content)))

-- Refusal 3: a present or own Node ID is zero or above 48 bits.
abbrev pub bad_node : ℕ → Bool
bad_node n = eqb n 0 || leb (2 ^ 48) n

abbrev pub bad_where_present : Option ℕ → Bool
bad_where_present (Some n) = bad_node n
bad_where_present None = false

unfoldable pub bad_nodes : Message → Bool
bad_nodes m = bad_node m.source || bad_where_present m.destination

-- Refusal 4: content length not in the table; when writing, also a field present or absent against its flag.
abbrev pub misplaced : Bool → Option ℕ → Bool
misplaced flag (Some x) = not flag
misplaced flag None = flag

unfoldable pub bad_content : Message → List ℕ → Bool
bad_content m content =
    misplaced (addressed m.mti) m.destination
    || (misplaced (carries_event m.mti) m.event
    || (ltb (length content) (meaning_of m.mti).least
    || ltb (meaning_of m.mti).most (length content)))

-- Refusal 5: Initialization Complete content is not the source.
unfoldable pub other_source : Message → List ℕ → Bool
other_source m content = is_restart (kind_of m.mti) && not (eqb (number_in content) m.source)

-- What reading and writing both test of a message and its content, in their order.
abbrev pub content_tests : Message → List ℕ → List Test
content_tests m content = refuse 3 (bad_nodes m) ∷ refuse 4 (bad_content m content) ∷ refuse 5 (other_source m content) ∷ []

-- Those of the content alone, which are left where the nodes are good and each field is where it is flagged.
abbrev pub rest_tests : ℕ → ℕ → List ℕ → List Test
rest_tests m source content =
    refuse 4 (ltb (length content) (meaning_of m).least || ltb (meaning_of m).most (length content))
    ∷ refuse 5 (is_restart (kind_of m) && not (eqb (number_in content) source))
    ∷ []
