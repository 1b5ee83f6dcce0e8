-- What a line of a case file says, read a byte at a time.
use Rattle.std.specs.Prelude.{ℕ, ◌+◌, ◌-◌, ◌*◌, ◌/◌, ◌%◌, ◌^◌, Option, Some, None, true, false, eqb, leb, ◌||◌, if◌then◌else◌, List, [], ◌∷◌, replicate, slice_index, slice_set}
use Rattle.std.specs.List.{fold, before_first}
use Rattle.case_files.specs.Digits.{digit}
use Rattle.case_files.specs.declared.Line.{Line}
use Rattle.case_files.specs.declared.reader.Place.{Place}
use Rattle.case_files.specs.declared.reader.Place.TheVariants.{Words, Message, Unreadable}
use Rattle.case_files.specs.declared.reader.Reader.{Reader}

-- Nothing has been read.
abbrev pub nothing : Reader
nothing = record { place = Words; gap = false; name = replicate 4 0; numbers = replicate 15 0; count = 0; bytes = replicate 512 0 }

abbrev pub unreadable : Reader → Reader
unreadable r = record r { place = Unreadable }

-- The command's first four letters count.
abbrev pub with_letter : Reader → ℕ → Reader
with_letter r b =
    if eqb (slice_index r.name 0) 0
    then record r { name = slice_index r.name 1 ∷ slice_index r.name 2 ∷ slice_index r.name 3 ∷ b ∷ [] }
    else r

-- Fifteen numbers of sixteen digits are the most.
abbrev pub with_digit : Reader → ℕ → Option ℕ → Reader
with_digit r at None = unreadable r
with_digit r at (Some d) =
    if leb 15 at || leb (2 ^ 60) (slice_index r.numbers at)
    then unreadable r
    else record r { gap = false; numbers = slice_set r.numbers at (slice_index r.numbers at * 16 + d); count = at + 1 }

-- A message has 512 bytes at most.
abbrev pub with_half : Reader → ℕ → Option ℕ → Reader
with_half r digits None = unreadable r
with_half r digits (Some d) =
    if leb 512 (digits / 2)
    then unreadable r
    else record r { place = Message (digits + 1); bytes = slice_set r.bytes (digits / 2) (slice_index r.bytes (digits / 2) % 16 * 16 + d) }

-- A colon ends the command and its numbers.
abbrev pub in_words : Reader → ℕ → Reader
in_words r b =
    if eqb b 58
    then record r { place = Message 0 }
    else (if r.gap
    then with_digit r r.count (digit b)
    else (if eqb r.count 0 then with_letter r b else with_digit r (r.count - 1) (digit b)))

abbrev pub at_place : Place → Reader → ℕ → Reader
at_place Words r b = in_words r b
at_place (Message digits) r b = with_half r digits (digit b)
at_place Unreadable r b = r

abbrev pub turned : Reader → ℕ → Reader
turned r b = if eqb b 32 then record r { gap = true } else at_place r.place r b

abbrev pub with_message : Reader → Option ℕ → Line
with_message r message = record { name = r.name; numbers = r.numbers; count = r.count; bytes = r.bytes; message = message }

abbrev pub line_at : Place → Reader → Option Line
line_at Words r = Some (with_message r None)
line_at (Message digits) r = if eqb (digits % 2) 0 then Some (with_message r (Some (digits / 2))) else None
line_at Unreadable r = None

-- A line that was read, if each byte of its message has two digits.
abbrev pub line_of : Reader → Option Line
line_of r = line_at r.place r

-- A line up to its comment.
abbrev pub line_in : List ℕ → Option Line
line_in text = line_of (fold turned nothing (before_first (λ b. eqb b 35) text))
