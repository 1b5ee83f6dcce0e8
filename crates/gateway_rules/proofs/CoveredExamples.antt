-- W4 by computation: lines that are not stored, lines that are replaced, a full table, and a table that is given with lines inside one another.
use Prim.Native.Nat.{ℕ, zero, suc}
use mathlib.Core.Path.{◌≡◌, refl}
use mathlib.Core.Bool.{true, false}
use mathlib.Core.List.{List, [], ◌∷◌, ◌++◌}
use lib.ListN.{length}
use Rattle.std.specs.Prelude.{Some}
use Rattle.range.specs.Range.{bits_equal, run, is_block, has_number, in_block, inside, single, block_of, house}
use Rattle.numbers.specs.Numbers.{spelled, bytes_of}
use Rattle.message.specs.Mti.{meaning_of}
use Rattle.message.specs.Messages.{bad_nodes, bad_content, other_source}
use Rattle.message.specs.Reading.{fields_in}
use Rattle.message.specs.Saying.{said_by}
use Rattle.gateway_rules.specs.declared.Line.{Line}
use Rattle.gateway_rules.specs.State.{Gate, out_of_bounds, start_of}
use Rattle.gateway_rules.specs.Step.{line, unnested, announce, taken, wants, goes_to, step}
use Rattle.gateway_rules.specs.History.{Entry, Live}
use Rattle.basics.specs.Since.Never.{nothing, nor}
use Rattle.gateway_rules.proofs.Entries.{entry, with_event, said, printed, row}
use Rattle.gateway_rules.proofs.Holding.{no_restart}

-- The line of 2^k events from a start on, which a node announced at a port.
abbrev at : ℕ → ℕ → ℕ → ℕ → Line
at port node start k = line port node (record { start = start; k = k })

-- A table, and what it is after announcements.
abbrev box : List Line → Gate
box lines = record { ports = 4; automatic = block_of house; lines = lines; marked = λ _. false }

abbrev told : Gate → List Line → Gate
told g [] = g
told g (l ∷ ls) = told (announce g l) ls

abbrev lines_after : List Line → List Line
lines_after ls = (told (box []) ls).lines

-- A board announces the block 16 to 31, then 17 and 31, which are inside, and 32, which is not: two lines, and reports of 30, 32 and 33.
abbrev clock : List Entry
clock =
    entry 1 (with_event 0x04A4 7 16)
    ∷ entry 1 (with_event 0x04C4 7 17)
    ∷ entry 1 (with_event 0x04C7 7 31)
    ∷ entry 1 (with_event 0x04C4 7 32)
    ∷ entry 0 (with_event 0x05B4 1 30)
    ∷ entry 0 (with_event 0x05B4 1 32)
    ∷ entry 0 (with_event 0x05B4 1 33)
    ∷ []

pub clock_lines : printed (start_of 4 house) clock
    ≡ row 0 1 0 1 1 1 ∷ row 0 1 0 1 1 1 ∷ row 0 1 0 1 1 1 ∷ row 0 1 0 1 1 2 ∷ row 0 0 1 0 0 2 ∷ row 0 0 1 0 0 2 ∷ row 0 0 0 0 0 2 ∷ []
unfolding step out_of_bounds is_block has_number in_block block_of run bits_equal inside wants goes_to taken announce said_by meaning_of fields_in bad_nodes bad_content other_source spelled bytes_of
clock_lines = refl

-- Events first and then their block: those of the same node at the same port go, and the block stands behind the others.
pub events_then_block : lines_after (at 1 7 16 0 ∷ at 1 9 17 0 ∷ at 1 7 31 0 ∷ at 2 7 18 0 ∷ at 1 7 32 0 ∷ at 1 7 16 4 ∷ [])
    ≡ at 1 9 17 0 ∷ at 2 7 18 0 ∷ at 1 7 32 0 ∷ at 1 7 16 4 ∷ []
unfolding announce inside
events_then_block = refl

-- Block in block in block, from the outermost and from the innermost; and the same block of another node and at another port, which are lines of their own.
pub three_deep : (lines_after (at 1 7 0 8 ∷ at 1 7 16 4 ∷ at 1 7 20 2 ∷ []) ≡ at 1 7 0 8 ∷ [])
    × (lines_after (at 1 7 20 2 ∷ at 1 7 16 4 ∷ at 1 7 0 8 ∷ []) ≡ at 1 7 0 8 ∷ [])
    × (lines_after (at 1 7 16 4 ∷ at 1 9 16 4 ∷ at 2 7 16 4 ∷ at 1 7 16 4 ∷ []) ≡ at 1 7 16 4 ∷ at 1 9 16 4 ∷ at 2 7 16 4 ∷ [])
unfolding announce inside
three_deep = (refl, refl, refl)

-- Two halves are apart, and do not cover the whole, which replaces them.
pub two_halves : (lines_after (at 1 7 16 3 ∷ at 1 7 24 3 ∷ []) ≡ at 1 7 16 3 ∷ at 1 7 24 3 ∷ [])
    × (lines_after (at 1 7 16 3 ∷ at 1 7 24 3 ∷ at 1 7 16 4 ∷ []) ≡ at 1 7 16 4 ∷ [])
unfolding announce inside
two_halves = (refl, refl)

-- The whole space first: nothing more of that node at that port. Last: in place of all of them.
pub whole_space : (lines_after (at 1 7 0 64 ∷ at 1 7 0 0 ∷ at 1 7 0xFFFFFFFFFFFFFFFF 0 ∷ at 1 7 0x8000000000000000 63 ∷ at 1 8 5 0 ∷ []) ≡ at 1 7 0 64 ∷ at 1 8 5 0 ∷ [])
    × (lines_after (at 1 7 5 0 ∷ at 1 8 5 0 ∷ at 1 7 0x8000000000000000 63 ∷ at 1 7 0 64 ∷ []) ≡ at 1 8 5 0 ∷ at 1 7 0 64 ∷ [])
unfolding announce inside
whole_space = (refl, refl)

-- ---- a full table

abbrev events : ℕ → List Line
events zero = []
events (suc n) = events n ++ (at 1 7 n 0 ∷ [])

abbrev crowded : Gate
crowded = box (events 256)

-- One that holds two of its lines, and one that holds all: the port stays closed.
pub full_replaced : (length (announce crowded (at 1 7 0 1)).lines ≡ 255)
    × ((announce crowded (at 1 7 0 1)).marked 1 ≡ false)
    × ((announce crowded (at 1 7 0 8)).lines ≡ at 1 7 0 8 ∷ [])
    × ((announce crowded (at 1 7 0 8)).marked 1 ≡ false)
unfolding announce inside
full_replaced = (refl, refl, refl, refl)

-- One that holds a single one of 256 lines: they are 256 again, it is the last of them, and the port stays closed.
abbrev apart_last : Gate
apart_last = box (events 255 ++ (at 1 7 1000 0 ∷ []))

pub full_one_replaced : ((announce apart_last (at 1 7 254 1)).lines ≡ events 254 ++ (at 1 7 1000 0 ∷ (at 1 7 254 1 ∷ [])))
    × (length (announce apart_last (at 1 7 254 1)).lines ≡ 256)
    × ((announce apart_last (at 1 7 254 1)).marked 1 ≡ false)
unfolding announce inside
full_one_replaced = (refl, refl, refl)

-- One that is inside a line changes nothing.
pub full_covered : (length (announce crowded (at 1 7 5 0)).lines ≡ 256) × ((announce crowded (at 1 7 5 0)).marked 1 ≡ false)
unfolding announce inside
full_covered = (refl, refl)

-- One that is new opens its port, also where it would hold lines of another node or of another port.
pub full_opened : (length (announce crowded (at 1 7 256 0)).lines ≡ 256)
    × ((announce crowded (at 1 7 256 0)).marked 1 ≡ true)
    × (length (announce crowded (at 1 9 0 8)).lines ≡ 256)
    × ((announce crowded (at 1 9 0 8)).marked 1 ≡ true)
    × (length (announce crowded (at 2 7 0 8)).lines ≡ 256)
    × ((announce crowded (at 2 7 0 8)).marked 2 ≡ true)
unfolding announce inside
full_opened = (refl, refl, refl, refl, refl, refl)

-- ---- a table that is given with lines inside one another

abbrev nested : List Line
nested = at 1 7 16 0 ∷ at 1 7 16 4 ∷ at 2 8 0 0 ∷ at 1 7 16 4 ∷ []

-- It is in bounds, and no start leads to it.
pub nested_in_bounds : (out_of_bounds (box nested) ≡ false) × (unnested nested ≡ false)
unfolding out_of_bounds is_block has_number block_of run bits_equal unnested inside
nested_in_bounds = (refl, refl)

-- What is inside one of its lines is not stored, although it holds another; what is inside none and holds some replaces all of them, and what is new is added; the rest stays nested.
pub nested_answered : ((announce (box nested) (at 1 7 17 0)).lines ≡ nested)
    × ((announce (box nested) (at 1 7 16 2)).lines ≡ nested)
    × ((announce (box nested) (at 1 7 0 5)).lines ≡ at 2 8 0 0 ∷ at 1 7 0 5 ∷ [])
    × ((announce (box nested) (at 1 7 32 0)).lines ≡ nested ++ (at 1 7 32 0 ∷ []))
unfolding announce inside
nested_answered = (refl, refl, refl, refl)

-- ---- live as before

-- The event 17 of board 7 at port 1 is live after its block was announced, in whose place its line went, and also where the block came first and it got no line.
pub replaced_live : Live (said 1 0x04C4 7 (Some 17) ∷ said 1 0x04A4 7 (Some 16) ∷ []) 1 7 (single 17)
unfolding Live said_by meaning_of block_of run bits_equal
replaced_live = record {
  before = [];
  by = said 1 0x04C4 7 (Some 17);
  later = said 1 0x04A4 7 (Some 16) ∷ [];
  split = refl;
  started = record { here = refl; sender = refl; says = refl };
  lasting = nor (no_restart (block_of 16) refl) nothing;
}

pub covered_live : Live (said 1 0x04A4 7 (Some 16) ∷ said 1 0x04C4 7 (Some 17) ∷ []) 1 7 (single 17)
unfolding Live said_by meaning_of
covered_live = record {
  before = said 1 0x04A4 7 (Some 16) ∷ [];
  by = said 1 0x04C4 7 (Some 17);
  later = [];
  split = refl;
  started = record { here = refl; sender = refl; says = refl };
  lasting = nothing;
}
