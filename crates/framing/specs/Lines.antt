-- What a frame file prints: a line for each step, or "bad file".
use Rattle.std.specs.Prelude.{ℕ, zero, suc, ◌+◌, ◌*◌, cond, List, [], ◌++◌, length}
use Rattle.text.specs.Text.{decimal, hex_of, space, new_line, bad_file, or_dash}
use Rattle.can_rules.specs.Aliases.{Aliases}
use Rattle.can_rules.specs.Joining.{Begun}
use Rattle.framing.specs.Files.{aliases_in, step_count, steps_at, size_at, good_file, most_steps}
use Rattle.framing.specs.Shown.{Shown, shown_at}

-- The step's number; the refusal or 0; the bytes; how many senders are unfinished after the step.
unfoldable pub line_of : ℕ → ℕ → List ℕ → ℕ → List ℕ
line_of k refusal bytes unfinished =
    decimal k ++ (space ++ (decimal refusal ++ (space ++ (or_dash (hex_of bytes) ++ (space ++ (decimal unfinished ++ new_line))))))

abbrev pub line_for : ℕ → Shown → List ℕ
line_for k shown = line_of k shown.refusal shown.bytes (length shown.next)

-- The lines of n steps from a place on, the first of them step k.
unfoldable pub lines_from : ℕ → ℕ → Aliases → List Begun → List ℕ → ℕ → List ℕ
lines_from zero k l b s at = []
lines_from (suc n) k l b s at = line_for k (shown_at l b s at) ++ lines_from n (suc k) l (shown_at l b s at).next s (at + size_at s at)

-- The lines of a file's steps with a list of aliases. The joining state begins empty.
abbrev pub step_lines : Aliases → List ℕ → List ℕ
step_lines l s = lines_from (step_count s) 0 l [] s (steps_at s)

unfoldable pub text_of : List ℕ → List ℕ
text_of s = cond (good_file s) (step_lines (aliases_in s) s) bad_file

-- ---- how long it can be

-- That of a report with 256 bytes of payload split into 33 frames: 3 digits, 1, 429 bytes in two digits each, 1, three spaces and the new line.
abbrev pub longest_line : ℕ
longest_line = 867

abbrev pub longest : ℕ
longest = most_steps * longest_line

-- No text has more parts.
abbrev pub most_parts : ℕ
most_parts = 14
