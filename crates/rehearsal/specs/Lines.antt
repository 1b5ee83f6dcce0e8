-- What a board file prints: a line for each call, or "bad file".
use Rattle.std.specs.Prelude.{ℕ, zero, suc, ◌+◌, ◌*◌, cond, List, [], ◌∷◌, ◌++◌, leb, length}
use Rattle.numbers.specs.Numbers.{bytes_of}
use Rattle.basics.specs.Sets.{set_of}
use Rattle.text.specs.Text.{decimal, hex_of, space, new_line, bad_file, or_dash}
use Rattle.node_rules.specs.Boards.{Board}
use Rattle.node_rules.specs.Sending.{all_bytes}
use Rattle.node_rules.specs.Calls.{Outcome}
use Rattle.rehearsal.specs.Files.{board_in, calls_at, size_at, outcome_at, good_file, most_calls}

-- A digit for each mark.
unfoldable pub digits_of : List ℕ → List ℕ
digits_of [] = []
digits_of (x ∷ xs) = decimal x ++ digits_of xs

-- The call's number; the refusal or 0; the bytes written; the matches as 16 digits; the state and the marks after the call.
unfoldable pub line_of : ℕ → ℕ → List ℕ → ℕ → ℕ → List ℕ → List ℕ
line_of k refusal bytes matches state marks =
    decimal k
    ++ (space
    ++ (decimal refusal
    ++ (space
    ++ (or_dash (hex_of bytes)
    ++ (space
    ++ (hex_of (bytes_of 8 matches) ++ (space ++ (decimal state ++ (space ++ (or_dash (digits_of marks) ++ new_line))))))))))

abbrev pub line_for : ℕ → Outcome → List ℕ
line_for k o = line_of k o.refusal (all_bytes o.sent) (set_of 64 o.matches) o.next.node.state o.next.slots.marks

-- The lines of at most n calls from a place on, the first of them call k.
unfoldable pub lines_from : ℕ → ℕ → Board → List ℕ → ℕ → List ℕ
lines_from zero k b s at = []
lines_from (suc n) k b s at =
    cond (leb (length s) at) [] (line_for k (outcome_at b s at) ++ lines_from n (suc k) (outcome_at b s at).next s (at + size_at s at))

-- The lines of a file's calls on a board.
abbrev pub call_lines : Board → List ℕ → List ℕ
call_lines b s = lines_from most_calls 0 b s (calls_at s)

unfoldable pub text_of : List ℕ → List ℕ
text_of s = cond (good_file s) (call_lines (board_in s) s) bad_file

-- ---- how long it can be

-- That of an accepted call: 3 digits, 1, 1,024 bytes in two digits each, 16, 1, 64 marks, five spaces and the new line.
abbrev pub longest_line : ℕ
longest_line = 2139

abbrev pub longest : ℕ
longest = most_calls * longest_line

-- No text has more parts.
abbrev pub most_parts : ℕ
most_parts = 33
