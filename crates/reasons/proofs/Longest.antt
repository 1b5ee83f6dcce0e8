-- How long the text of a file's last entry can be, over every file.
use Prim.Native.Nat.{ℕ, zero, suc, ◌≤◌}
use mathlib.Core.Bool.{Bool, true, false, cond}
use mathlib.Core.List.{List, ◌++◌}
use native.Mathlib.Omega.{arith}
use lib.Dec.{eqb}
use lib.ListN.{length, length-append}
use Rattle.text.specs.Text.{decimal, new_line, bad_file}
use Rattle.text.proofs.Lengths.{decimal_length}
use Rattle.gateway_rules.specs.State.{Gate}
use Rattle.gateway_rules.specs.Reasons.{number_in, why_told}
use Rattle.gateway_rules.proofs.Asking.{why_up_to, reason_up_to}
use Rattle.replay.specs.Files.{entry_count, good_file}
use Rattle.reasons.specs.Lines.{line_of, line_for, port_lines, answer_of, last_of, text_of, longest}

line_length : (p reason : ℕ) → p ≤ 9 → reason ≤ 9 → length (line_of p reason) ≤ 4
unfolding line_of
line_length p reason h k =
    simp length-append (omega (arith, decimal_length 1 p (omega arith) (omega (arith, h)), decimal_length 1 reason (omega arith) (omega (arith, k))))

port_length : (g : Gate) (q : ℕ) (bytes : List ℕ) (p : ℕ) → p ≤ 9 → length (line_for g q bytes p) ≤ 4
port_length g q bytes p h = line_length p (number_in (why_told g q p bytes)) h (omega (arith, reason_up_to g q p bytes))

answer_length : (g : Gate) (q : ℕ) (bytes : List ℕ) → length (answer_of g q bytes) ≤ longest
unfolding answer_of
answer_length g q bytes = go (eqb (why_told g q 0 bytes).refusal 0)
  where
    of : (p : ℕ) → p ≤ 9 → length (line_for g q bytes p) ≤ 4
    of = port_length g q bytes

    go : (t : Bool) → length (cond t (port_lines g q bytes) (decimal (why_told g q 0 bytes).refusal ++ new_line)) ≤ longest
    go true = simp length-append (omega (arith, of 0 (omega arith), of 1 (omega arith), of 2 (omega arith), of 3 (omega arith)))
    go false = simp length-append (omega (arith, decimal_length 2 (why_told g q 0 bytes).refusal (omega arith) (omega (arith, why_up_to g q 0 bytes))))

-- No file has a longer text.
pub text_length : (s : List ℕ) → length (text_of s) ≤ longest
unfolding text_of last_of
text_length s = go (good_file s)
  where
    last : (n : ℕ) → length (last_of n s) ≤ longest
    last zero = omega arith
    last (suc n) = answer_length _ _ _

    go : (t : Bool) → length (cond t (last_of (entry_count s) s) bad_file) ≤ longest
    go true = last (entry_count s)
    go false = omega arith
