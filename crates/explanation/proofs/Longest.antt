-- How long a file's text can be, over every file.
use Rattle.std.proofs.Common.{◌≡◌, ℕ, zero, suc, ◌+◌, ◌-◌, ◌*◌, ◌<◌, ◌≤◌, Bool, true, false, cond, ◌||◌, eqb, List, [], ◌∷◌, ◌++◌, length, refl, ap, arith, length-append}
use Rattle.numbers.specs.Numbers.{bytes_of}
use Rattle.numbers.proofs.Laws.{bytes_length}
use Rattle.basics.specs.Lists.{first_or}
use Rattle.basics.specs.Refusals.{answered}
use Rattle.range.specs.declared.Block.{Block}
use Rattle.range.specs.Range.{last, house}
use Rattle.text.specs.Text.{ascii, bad_file}
use Rattle.text.proofs.Lengths.{decimal_length, hex_length}
use Rattle.gateway_rules.specs.declared.Holder.{Holder}
use Rattle.gateway_rules.specs.declared.Reason.{Reason}
use Rattle.gateway_rules.specs.declared.Reason.TheVariants.{ArrivalPort, AutomaticEvent, OpenPort, HeldBy, NothingHolds}
use Rattle.gateway_rules.specs.State.{Gate, full, start_of}
use Rattle.gateway_rules.specs.Step.{step}
use Rattle.gateway_rules.specs.Reasons.{reason_for, reported_in}
use Rattle.gateway_rules.proofs.Limits.{step_up_to, step_few}
use Rattle.gateway_rules.proofs.Reasons.{line_named}
use Rattle.replay.specs.Files.{entry_count, port_in, body_in, good_file}
use Rattle.replay.specs.Lines.{ports, step_at}
use Rattle.replay.proofs.Good.{good_file_lem}
use Rattle.explanation.specs.Words.{event_text, node_text, block_text, holder_text, reason_text, leg_line, leg_lines, refused_line, entry_lines, accepted_report, lines_from, text_of, longest_line, longest}

-- ---- a leg's line

event_length : (e : ℕ) → length (event_text e) ≡ 16
event_length e = omega (arith, hex_length (bytes_of 8 e), bytes_length 8 e)

node_length : (n : ℕ) → length (node_text n) ≡ 12
node_length n = omega (arith, hex_length (bytes_of 6 n), bytes_length 6 n)

block_length : (b : Block) → length (block_text b) ≤ 36
unfolding block_text
block_length b = go (eqb b.k 0)
  where
    go : (t : Bool) → length (event_text b.start ++ cond t [] (ascii " to " ++ event_text (last b))) ≤ 36
    go true = omega (arith, length-append (event_text b.start) [], event_length b.start)
    go false = simp length-append (omega (arith, event_length b.start, event_length (last b)))

holder_length : (l : Holder) → l.place < full → length (holder_text l) ≤ 82
unfolding holder_text
holder_length l h = simp length-append (omega (arith, decimal_length 3 l.place (omega arith) (omega (arith, h)), node_length l.node, block_length l.block))

-- The line that is named is one of the table.
named_place : (g : Gate) (q e p : ℕ) (l : Holder) → reason_for g q e p ≡ HeldBy l → l.place < length g.lines
named_place g q e p l f =
    let w = line_named g q e p l f in
    omega (arith, w.at, ap length w.table, length-append w.before (w.line ∷ w.later))

reason_length : (e : ℕ) (r : Reason) → ((l : Holder) → r ≡ HeldBy l → l.place < full) → length (reason_text e r) ≤ 82
reason_length e ArrivalPort h = omega arith
reason_length e AutomaticEvent h = simp length-append (omega (arith, event_length e))
reason_length e OpenPort h = omega arith
reason_length e (HeldBy l) h = holder_length l (h l refl)
reason_length e NothingHolds h = simp length-append (omega (arith, event_length e))

module _ (i : ℕ) (g : Gate) (q : ℕ) (hi : i < 1000) (few : length g.lines ≤ full) where
  leg_length : (e p : ℕ) → p < ports → length (leg_line i e p (reason_for g q e p)) ≤ longest_line
  unfolding leg_line
  leg_length e p h =
      let number = decimal_length 3 i (omega arith) (omega (arith, hi)) in
      let leg = decimal_length 1 p (omega arith) (omega (arith, h)) in
      let reason = reason_length e (reason_for g q e p) (λ l f. omega (arith, named_place g q e p l f, few)) in
      simp length-append (omega (arith, number, leg, reason))

  legs_length : (n e p : ℕ) → p + n ≤ ports → length (leg_lines n p i g q e) ≤ n * longest_line
  unfolding leg_lines
  legs_length zero e p h = omega arith
  legs_length (suc n) e p h =
      omega (arith, length-append (leg_line i e p (reason_for g q e p)) (leg_lines n (suc p) i g q e), leg_length e p (omega (arith, h)), legs_length n e (suc p) (omega (arith, h)))

  -- ---- an entry's lines

  -- Three digits, the words around them and one digit.
  refused_length : (n : ℕ) → n ≤ 8 → length (refused_line i n) ≤ 31
  unfolding refused_line
  refused_length n h =
      simp length-append (omega (arith, decimal_length 3 i (omega arith) (omega (arith, hi)), decimal_length 1 n (omega arith) (omega (arith, h))))

  entry_length : (bytes : List ℕ) → length (entry_lines i g q bytes) ≤ cond (accepted_report g q bytes) (ports * longest_line) 31
  unfolding entry_lines accepted_report
  entry_length bytes = go (step g q bytes).refusal (step_up_to g q bytes) (reported_in bytes)
    where
      go : (n : ℕ) → n ≤ 8 → (es : List ℕ)
          → length (answered (first_or [] (leg_lines ports 0 i g q)) (refused_line i) n es) ≤ cond (answered (first_or false (λ _. true)) (λ _. false) n es) (ports * longest_line) 31
      go zero h [] = omega arith
      go zero h (e ∷ es) = legs_length ports e 0 (omega arith)
      go (suc n) h es = refused_length (suc n) h

-- ---- the lines, and the text

-- The last line is there only where no entry has four.
abbrev most : ℕ → Bool → ℕ
most n reported = n * (ports * longest_line) + cond reported 0 (29 - n * 29)

lines_length : (n i : ℕ) (t : Bool) (g : Gate) (s : List ℕ) → i + n ≤ 1000 → length g.lines ≤ full → length (lines_from n i t g s) ≤ most n t
unfolding lines_from
lines_length zero i true g s h few = omega arith
lines_length zero i false g s h few = omega arith
lines_length (suc n) i t g s h few =
    let q = port_in s i in
    let bytes = body_in s i in
    let after = step_few g q bytes few in
    let report = accepted_report g q bytes in
    let rest = lines_length n (suc i) (t || report) (step_at g s i).next s (omega (arith, h)) after in
    go t report (entry_length i g q (omega (arith, h)) few bytes) rest (length-append (entry_lines i g q bytes) (lines_from n (suc i) (t || report) (step_at g s i).next s))
  where
    go : (t report : Bool) {entry rest all : ℕ} → entry ≤ cond report (ports * longest_line) 31 → rest ≤ most n (t || report) → all ≡ entry + rest → all ≤ most (suc n) t
    go true true a b e = omega arith
    go true false a b e = omega arith
    go false true a b e = omega arith
    go false false a b e = omega arith

-- No file has a longer text.
pub text_length : (s : List ℕ) → length (text_of s) ≤ longest
unfolding text_of
text_length s = go (good_file s) refl
  where
    go : (t : Bool) → good_file s ≡ t → length (cond t (lines_from (entry_count s) 0 false (start_of ports house) s) bad_file) ≤ longest
    go true e = omega (arith, lines_length (entry_count s) 0 false (start_of ports house) s (omega (arith, (good_file_lem s e).count)) (omega arith), (good_file_lem s e).count)
    go false e = omega arith
