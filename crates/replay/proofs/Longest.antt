-- How long a trial file's text can be, over every file.
use Prim.Native.Nat.{ℕ, zero, suc, ◌+◌, ◌*◌, ◌≤◌, ◌<◌}
use mathlib.Core.Path.{◌≡◌, refl, ◌∙◌}
use mathlib.Core.Bool.{Bool, true, false, cond}
use mathlib.Core.List.{List, ◌++◌}
use native.Mathlib.Omega.{arith}
use lib.Dec.{eqb}
use lib.ListN.{length, length-append}
use Rattle.numbers.specs.Bits.{bit}
use Rattle.basics.specs.Sets.{set_of}
use Rattle.range.specs.Range.{house}
use Rattle.text.specs.Text.{filled_at, end_at, laid_over, decimal, bad_file}
use Rattle.text.proofs.Lengths.{decimal_length, filled_whole}
use Rattle.gateway_rules.specs.State.{Gate, full, start_of}
use Rattle.gateway_rules.proofs.Limits.{step_up_to, step_few}
use Rattle.replay.specs.Files.{entry_count, port_in, body_in, good_file}
use Rattle.replay.specs.Lines.{refused_word, ports, port_digits, answer_text, line_of, line_for, step_at, lines_from, text_of, longest_line, longest}
use Rattle.replay.proofs.Good.{good_file_lem}

-- ---- a line

bit_length : (i sent : ℕ) → length (decimal (bit i sent)) ≤ 1
bit_length i sent = decimal_length 1 (bit i sent) (omega arith) (omega arith)

ports_length : (sent : ℕ) → length (port_digits sent) ≤ 4
ports_length sent = simp length-append (omega (arith, bit_length 0 sent, bit_length 1 sent, bit_length 2 sent, bit_length 3 sent))

answer_length : (refusal sent : ℕ) → refusal ≤ 8 → length (answer_text refusal sent) ≤ 9
answer_length refusal sent h = go (eqb refusal 0)
  where
    go : (t : Bool) → length (cond t (port_digits sent) (refused_word ++ decimal refusal)) ≤ 9
    go true = omega (arith, ports_length sent)
    go false = omega (arith, length-append refused_word (decimal refusal), decimal_length 1 refusal (omega arith) (omega (arith, h)))

line_length : (i refusal sent lines : ℕ) → i < 1000 → refusal ≤ 8 → lines ≤ full → length (line_of i refusal sent lines) ≤ longest_line
unfolding line_of
line_length i refusal sent lines hi hr hl =
    let number = decimal_length 3 i (omega arith) (omega (arith, hi)) in
    let count = decimal_length 3 lines (omega arith) (omega (arith, hl)) in
    let answer = answer_length refusal sent hr in
    simp length-append (omega (arith, number, count, answer))

-- ---- the lines, and the text

lines_length : (n i : ℕ) (g : Gate) (s : List ℕ) → i + n ≤ 1000 → length g.lines ≤ full → length (lines_from n i g s) ≤ n * longest_line
unfolding lines_from
lines_length zero i g s h few = omega arith
lines_length (suc n) i g s h few =
    let o = step_at g s i in
    let after = step_few g (port_in s i) (body_in s i) few in
    let line = line_length i o.refusal (set_of 8 o.to) (length o.next.lines) (omega (arith, h)) (step_up_to g (port_in s i) (body_in s i)) after in
    omega (arith, length-append (line_for i o) (lines_from n (suc i) o.next s), line, lines_length n (suc i) o.next s (omega (arith, h)) after)

-- No file has a longer text.
pub text_length : (s : List ℕ) → length (text_of s) ≤ longest
unfolding text_of
text_length s = go (good_file s) refl
  where
    go : (t : Bool) → good_file s ≡ t → length (cond t (lines_from (entry_count s) 0 (start_of ports house) s) bad_file) ≤ longest
    go true e = omega (arith, lines_length (entry_count s) 0 (start_of ports house) s (omega (arith, (good_file_lem s e).count)) (omega arith), (good_file_lem s e).count)
    go false e = omega arith

-- What is put into a longer buffer is the whole text.
pub text_whole : (s text : List ℕ) {end : ℕ} {text' : List ℕ} → length text ≡ 65536 → (end ≡ end_at 0 (text_of s) text) × (text' ≡ filled_at 0 (text_of s) text)
    → (end ≡ length (text_of s)) × (text' ≡ laid_over (text_of s) text)
text_whole s text room p =
    let w = filled_whole 65536 (text_of s) text room (omega (arith, text_length s)) in
    (p.0 ∙ w.0, p.1 ∙ w.1)
