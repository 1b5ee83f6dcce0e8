-- What a trial file prints: a line for each entry, or "bad file" (document 01, "Trial program").
use Rattle.std.specs.Prelude.{ℕ, zero, suc, ◌-◌, ◌*◌, cond, List, [], ◌++◌, eqb, length}
use Rattle.numbers.specs.Bits.{bit}
use Rattle.basics.specs.Sets.{set_of}
use Rattle.range.specs.Range.{house}
use Rattle.text.specs.Text.{decimal, ascii, space, new_line, bad_file}
use Rattle.gateway_rules.specs.State.{Gate, start_of}
use Rattle.gateway_rules.specs.Step.{Outcome, step}
use Rattle.replay.specs.declared.entries.Entries.{Entries}
use Rattle.replay.specs.Files.{entry_count, port_in, body_in, good_file}

abbrev pub refused_word : List ℕ
refused_word = ascii "refused "

-- It starts 4 ports with the house block.
abbrev pub ports : ℕ
ports = 4

-- One digit per port from 0, 1 for sent.
abbrev pub port_digits : ℕ → List ℕ
port_digits sent = decimal (bit 0 sent) ++ (decimal (bit 1 sent) ++ (decimal (bit 2 sent) ++ decimal (bit 3 sent)))

-- Or "refused" and the number.
abbrev pub answer_text : ℕ → ℕ → List ℕ
answer_text refusal sent = cond (eqb refusal 0) (port_digits sent) (refused_word ++ decimal refusal)

-- Entry number; the answer; lines in the table.
unfoldable pub line_of : ℕ → ℕ → ℕ → ℕ → List ℕ
line_of i refusal sent lines = decimal i ++ (space ++ (answer_text refusal sent ++ (space ++ (decimal lines ++ new_line))))

abbrev pub line_for : ℕ → Outcome → List ℕ
line_for i o = line_of i o.refusal (set_of 8 o.to) (length o.next.lines)

-- What the box does with entry i.
abbrev pub step_at : Gate → List ℕ → ℕ → Outcome
step_at g s i = step g (port_in s i) (body_in s i)

-- The lines of n entries from entry i on.
unfoldable pub lines_from : ℕ → ℕ → Gate → List ℕ → List ℕ
lines_from zero i g s = []
lines_from (suc n) i g s = line_for i (step_at g s i) ++ lines_from n (suc i) (step_at g s i).next s

-- The lines of the entries that are still to come.
abbrev pub lines_of : Gate → Entries → List ℕ
lines_of g e = lines_from (entry_count e.file.now - e.index) e.index g e.file.now

unfoldable pub text_of : List ℕ → List ℕ
text_of s = cond (good_file s) (lines_from (entry_count s) 0 (start_of ports house) s) bad_file

-- ---- how long it can be

-- "999 refused 8 256" and the new line.
abbrev pub longest_line : ℕ
longest_line = 18

-- At most 1,000 entries.
abbrev pub longest : ℕ
longest = 1000 * longest_line
