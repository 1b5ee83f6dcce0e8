-- That nothing above is vacuous, by computation: document 01's example, a live announcement, and a table that fills.
use Prim.Native.Nat.{ℕ, zero, suc, ◌+◌}
use mathlib.Core.Path.{◌≡◌, refl}
use mathlib.Core.Bool.{true, false}
use mathlib.Core.List.{List, [], ◌∷◌, ◌++◌}
use lib.ListN.{length}
use Rattle.std.specs.Prelude.{Some, None}
use Rattle.range.specs.Range.{bits_equal, run, is_block, has_number, in_block, single, block_of, house, inside}
use Rattle.numbers.specs.Numbers.{spelled, bytes_of}
use Rattle.message.specs.Mti.{meaning_of}
use Rattle.message.specs.Messages.{bad_nodes, bad_content, other_source}
use Rattle.message.specs.Reading.{fields_in}
use Rattle.message.specs.declared.Saying.{Saying}
use Rattle.message.specs.declared.Saying.TheVariants.{Announcement, Restart}
use Rattle.message.specs.Saying.{said_by}
use Rattle.gateway_rules.specs.State.{out_of_bounds, start_of}
use Rattle.gateway_rules.specs.Step.{announce, taken, wants, goes_to, step}
use Rattle.gateway_rules.specs.History.{Entry, Heard, Live, left_by, Word, concerning}
use Rattle.gateway_rules.proofs.Entries.{entry, with_event, initialized, printed, row}
use Rattle.gateway_rules.proofs.Holding.{no_restart}
use Rattle.basics.specs.Since.Never.{nothing, nor}

-- ---- document 01's seven entries

abbrev seven : List Entry
seven =
    entry 1 (with_event 0x04C4 0x0A0000000001 0x0A00000000010001)
    ∷ entry 0 (with_event 0x05B4 0x0A0000000009 0x0A00000000010001)
    ∷ entry 1 (initialized 0x0A0000000002)
    ∷ entry 0 (with_event 0x05B4 0x0A0000000009 0x0A00000000010001)
    ∷ entry 1 (initialized 0x0A0000000001)
    ∷ entry 0 (with_event 0x05B4 0x0A0000000009 0x0A00000000010001)
    ∷ entry 4 []
    ∷ []

pub seven_lines : printed (start_of 4 house) seven
    ≡ row 0 1 0 1 1 1 ∷ row 0 0 1 0 0 1 ∷ row 0 1 0 1 1 1 ∷ row 0 0 1 0 0 1 ∷ row 0 1 0 1 1 0 ∷ row 0 0 0 0 0 0 ∷ row 8 0 0 0 0 0 ∷ []
unfolding step out_of_bounds is_block has_number in_block block_of run bits_equal inside wants goes_to taken announce said_by meaning_of fields_in bad_nodes bad_content other_source spelled bytes_of
seven_lines = refl

-- ---- a live announcement, and a table that fills

abbrev board : ℕ
board = 0x0A0000000001

-- Each by another node, so that lines are compared by their Node IDs alone.
abbrev announcement : ℕ → Heard
announcement e = record { port = 1; message = record { mti = 0x04C4; source = board + e; destination = None; event = Some e } }

abbrev announcements : ℕ → List Heard
announcements zero = []
announcements (suc n) = announcements n ++ (announcement n ∷ [])

pub something_live : Live (announcements 3) 1 (board + 1) (single 1)
unfolding Live said_by meaning_of
something_live = record {
  before = announcement 0 ∷ [];
  by = announcement 1;
  later = announcement 2 ∷ [];
  split = refl;
  started = record { here = refl; sender = refl; says = refl };
  lasting = nor (no_restart (single 2) refl) nothing;
}

-- 256 announcements fill the table, and the next opens the port.
pub full_at_256 : (length (left_by (start_of 4 house) (announcements 256)).lines ≡ 256) × ((left_by (start_of 4 house) (announcements 256)).marked 1 ≡ false)
unfolding taken announce said_by meaning_of inside
full_at_256 = (refl, refl)

pub opens_at_257 : (length (left_by (start_of 4 house) (announcements 257)).lines ≡ 256) × ((left_by (start_of 4 house) (announcements 257)).marked 1 ≡ true)
unfolding taken announce said_by meaning_of inside
opens_at_257 = (refl, refl)

-- ---- the same said in other bytes

abbrev carrying : ℕ → ℕ → Heard
carrying mti e = record { port = 1; message = record { mti = mti; source = board; destination = None; event = Some e } }

abbrev restarting_at : ℕ → ℕ → Heard
restarting_at port mti = record { port = port; message = record { mti = mti; source = board; destination = None; event = None } }

abbrev restarting : ℕ → Heard
restarting mti = restarting_at 1 mti

abbrev word : Saying → Word
word saying = record { source = board; saying = saying }

-- An event valid and invalid, the whole space as 0 and as all ones, and a restart in full and simple: sharing takes each pair for the same.
abbrev words : List Word
words = word (Announcement (single 7)) ∷ word (Announcement (record { start = 0; k = 64 })) ∷ word Restart ∷ []

pub same_words : (concerning 1 (carrying 0x04C4 7 ∷ carrying 0x04A4 0 ∷ restarting 0x0100 ∷ []) ≡ words)
    × (concerning 1 (carrying 0x04C5 7 ∷ carrying 0x04A4 0xFFFFFFFFFFFFFFFF ∷ restarting 0x0110 ∷ []) ≡ words)
unfolding concerning said_by meaning_of block_of run bits_equal
same_words = (refl, refl)

-- An announcement that comes in by another port is left out, and so is a report; a restart is not, and says the same whichever port it came in by.
pub others_left_out : (concerning 2 (carrying 0x04C4 7 ∷ carrying 0x05B4 7 ∷ []) ++ concerning 1 (carrying 0x05B4 7 ∷ []) ≡ [])
    × (concerning 2 (restarting_at 1 0x0100 ∷ restarting_at 2 0x0100 ∷ restarting_at 3 0x0110 ∷ []) ≡ word Restart ∷ word Restart ∷ word Restart ∷ [])
unfolding concerning said_by meaning_of
others_left_out = (refl, refl)
