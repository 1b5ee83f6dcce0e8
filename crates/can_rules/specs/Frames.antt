-- Frames (document 02, W3; 001 section 7).
use Rattle.std.specs.Prelude.{ℕ, ◌+◌, ◌-◌, ◌*◌, ◌%◌, Bool, cond, List, [], ◌∷◌, ◌++◌, eqb, length, get_or, take, drop, replicate}
use Rattle.numbers.specs.Numbers.{bytes_of, number_at}
use Rattle.can_rules.specs.declared.Frame.{Frame}
use Rattle.can_rules.specs.declared.Part.{Part}
use Rattle.can_rules.specs.declared.Part.TheVariants.{Whole, Start, Middle, Last, OtherHeader}

-- ---- headers

-- The 12-bit MTI of each part; a header of another kind has none, and 0 is none of the four.
abbrev pub mti_of : Part → ℕ
mti_of Whole = 0x5B4
mti_of Start = 0xF16
mti_of Middle = 0xF15
mti_of Last = 0xF14
mti_of OtherHeader = 0

-- 19000000 hex plus the 12-bit MTI times 1000 hex plus the 12-bit alias.
abbrev pub header_of : Part → ℕ → ℕ
header_of part alias = 0x19000000 + mti_of part * 0x1000 + alias

abbrev pub alias_in : ℕ → ℕ
alias_in header = header % 0x1000

-- A header is that of a part where it is the sum for its own alias.
abbrev pub headed : ℕ → Part → Bool
headed header part = eqb header (header_of part (alias_in header))

unfoldable pub part_in : ℕ → Part
part_in header =
    cond (headed header Whole) Whole
    (cond (headed header Start) Start (cond (headed header Middle) Middle (cond (headed header Last) Last OtherHeader)))

abbrev pub part_of : Frame → Part
part_of f = part_in f.header

-- ---- bytes

-- The bytes in use; what stands in the others does not matter.
abbrev pub bytes_in : Frame → List ℕ
bytes_in f = take f.length f.bytes

-- A frame with these bytes, the unused ones zero.
unfoldable pub frame : Part → ℕ → List ℕ → Frame
frame part alias bytes = record { header = header_of part alias; length = length bytes; bytes = bytes ++ replicate (8 - length bytes) 0 }

-- Written out: 4, 1 and 8 bytes, high byte first.
abbrev pub frame_bytes : Frame → List ℕ
frame_bytes f = bytes_of 4 f.header ++ ((f.length ∷ []) ++ f.bytes)

unfoldable pub all_bytes : List Frame → List ℕ
all_bytes [] = []
all_bytes (f ∷ fs) = frame_bytes f ++ all_bytes fs

-- The frame that is written out at a place.
unfoldable pub frame_at : List ℕ → ℕ → Frame
frame_at s at = record { header = number_at s at 4; length = get_or s (at + 4) 0; bytes = take 8 (drop (at + 5) s) }
