-- What is printed for a trial file's last entry: a line a port, the port and the reason, or only the refusal number (document 02, W1).
use Rattle.std.specs.Prelude.{ℕ, zero, suc, cond, List, [], ◌++◌, eqb}
use Rattle.range.specs.Range.{house}
use Rattle.text.specs.Text.{decimal, space, new_line, bad_file}
use Rattle.gateway_rules.specs.State.{Gate, start_of}
use Rattle.gateway_rules.specs.Reasons.{number_in, why_told}
use Rattle.replay.specs.Files.{entry_count, port_in, body_in, good_file}
use Rattle.replay.specs.Lines.{ports, step_at}

-- The state that the first n entries have left.
unfoldable pub left_after : ℕ → List ℕ → Gate
left_after zero s = start_of ports house
left_after (suc n) s = (step_at (left_after n s) s n).next

-- The port and the reason.
unfoldable pub line_of : ℕ → ℕ → List ℕ
line_of p reason = decimal p ++ (space ++ (decimal reason ++ new_line))

abbrev pub line_for : Gate → ℕ → List ℕ → ℕ → List ℕ
line_for g q bytes p = line_of p (number_in (why_told g q p bytes))

-- A line for each of the four ports.
abbrev pub port_lines : Gate → ℕ → List ℕ → List ℕ
port_lines g q bytes = line_for g q bytes 0 ++ (line_for g q bytes 1 ++ (line_for g q bytes 2 ++ line_for g q bytes 3))

-- Or only the refusal number. All four ports are there, so it is the same whichever is asked.
unfoldable pub answer_of : Gate → ℕ → List ℕ → List ℕ
answer_of g q bytes = cond (eqb (why_told g q 0 bytes).refusal 0) (port_lines g q bytes) (decimal (why_told g q 0 bytes).refusal ++ new_line)

-- The last of n entries is asked in the state that all before it have left; a file without entries prints nothing.
unfoldable pub last_of : ℕ → List ℕ → List ℕ
last_of zero s = []
last_of (suc n) s = answer_of (left_after n s) (port_in s n) (body_in s n)

unfoldable pub text_of : List ℕ → List ℕ
text_of s = cond (good_file s) (last_of (entry_count s) s) bad_file

-- ---- how long it can be

-- Four lines such as "3 5", with the new line.
abbrev pub longest : ℕ
longest = 16
