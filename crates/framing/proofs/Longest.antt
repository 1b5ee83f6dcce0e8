-- How long a frame file's text can be, over every file.
use Prim.Native.Nat.{ℕ, zero, suc, ◌+◌, ◌*◌, ◌≤◌, ◌<◌}
use mathlib.Core.Path.{◌≡◌, refl}
use mathlib.Core.Bool.{Bool, true, false, cond}
use mathlib.Core.List.{List, [], ◌∷◌}
use native.Mathlib.Omega.{arith}
use lib.ListN.{length, replicate, length-append}
use Rattle.basics.specs.Refusals.{first_of, answered}
use Rattle.text.specs.Text.{decimal, hex_of, bad_file, or_dash}
use Rattle.text.proofs.Lengths.{decimal_length, hex_length}
use Rattle.message.specs.declared.Message.{Message}
use Rattle.can_rules.specs.Frames.{frame_at, all_bytes}
use Rattle.can_rules.specs.Aliases.{Aliases}
use Rattle.can_rules.specs.Joining.{Begun, Handed, join}
use Rattle.can_rules.specs.Splitting.{split_of, split_tests}
use Rattle.can_rules.proofs.Bounds.{Bounded}
use Rattle.can_rules.proofs.Changes.{next_bounded}
use Rattle.framing.specs.Files.{joins, good_step, good_steps, message_at, content_at, room_at, size_at, step_count, steps_at, aliases_in, good_file}
use Rattle.framing.specs.Shown.{Shown, handed_bytes, shown_join, shown_split, shown_at}
use Rattle.framing.specs.Lines.{line_of, line_for, lines_from, step_lines, text_of, longest_line, longest}
use Rattle.framing.proofs.Good.{step_least, steps_good, good_file_lem}
use Rattle.framing.proofs.Handing.{Hands, join_hands}
use Rattle.framing.proofs.Handing.Hands.{nothing, first}
use Rattle.framing.proofs.Showing.{frame_eight}
use Rattle.framing.proofs.Sizes.{split_size, split_up_to, join_up_to, reporting_length}

-- ---- the parts of a line

dash_length : (n : ℕ) (xs : List ℕ) → 1 ≤ n → length xs ≤ n → length (or_dash xs) ≤ n
dash_length n [] h l = h
dash_length n (x ∷ xs) h l = l

bytes_length_in : (n : ℕ) (bytes : List ℕ) → 1 ≤ n → 2 * length bytes ≤ n → length (or_dash (hex_of bytes)) ≤ n
bytes_length_in n bytes h l = dash_length n (hex_of bytes) h (omega (arith, hex_length bytes))

-- Of a line in which the refusal and the bytes have at most so many digits.
parts_length : (r h k refusal : ℕ) (bytes : List ℕ) (unfinished : ℕ) → k < 1000 → length (decimal refusal) ≤ r → length (or_dash (hex_of bytes)) ≤ h → unfinished ≤ 2
    → length (line_of k refusal bytes unfinished) ≤ 8 + r + h
unfolding line_of
parts_length r h k refusal bytes unfinished hk hr hb hu =
    let number = decimal_length 3 k (omega arith) (omega (arith, hk)) in
    let one = decimal_length 1 unfinished (omega arith) (omega (arith, hu)) in
    simp length-append (omega (arith, number, one, hr, hb))

-- ---- what is shown of a step

-- Its line is no longer than the longest, and at most two senders are unfinished after it.
record Short (k : ℕ) (shown : Shown) : Type 0 where
  line : length (line_for k shown) ≤ longest_line
  after : Bounded shown.next

two_digits : (n : ℕ) → n ≤ 29 → length (decimal n) ≤ 2
two_digits n h = decimal_length 2 n (omega arith) (omega (arith, h))

handed_size : {hs : List Handed} → Hands hs → length (handed_bytes hs) ≤ 272
handed_size nothing = omega arith
handed_size (first good r) = reporting_length r

module _ (k : ℕ) (hk : k < 1000) (l : Aliases) (b : List Begun) (hb : Bounded b) where
  short_join : (s : List ℕ) (at : ℕ) → at + 13 ≤ length s → Short k (shown_join (join l b (frame_at s at)))
  short_join s at h =
      let o = join l b (frame_at s at) in
      let size = handed_size (join_hands l b (frame_at s at) (frame_eight s at h)) in
      let after = next_bounded l b (frame_at s at) hb in
      let bytes = bytes_length_in 544 (handed_bytes o.handed) (omega arith) (omega (arith, size)) in
      let line = parts_length 2 544 k o.refusal (handed_bytes o.handed) (length o.next) hk (two_digits o.refusal (join_up_to l b (frame_at s at))) bytes after.at_most_two in
      record { line = omega (arith, line); after = after }

  -- An accepted split has at most 429 bytes, a refused one none.
  short_split : (m : Message) (content : List ℕ) (room : ℕ) → Short k (shown_split l b m content room)
  unfolding shown_split
  short_split m content room = record { line = go (first_of (split_tests l m content out)) refl; after = hb }
    where
      out : List ℕ
      out = replicate room 0

      frames : List ℕ
      frames = all_bytes (split_of l m content)

      go : (r : ℕ) → first_of (split_tests l m content out) ≡ r → length (line_of k r (answered (λ x. x) (λ _. []) r frames) (length b)) ≤ longest_line
      go zero e =
          let bytes = bytes_length_in 858 frames (omega arith) (omega (arith, split_size l m content out e)) in
          parts_length 1 858 k 0 frames (length b) hk (decimal_length 1 0 (omega arith) (omega arith)) bytes hb.at_most_two
      go (suc r) e =
          let digits = two_digits (suc r) (omega (arith, e, split_up_to l m content out)) in
          let line = parts_length 2 1 k (suc r) [] (length b) hk digits (omega arith) hb.at_most_two in
          omega (arith, line)

  short_at : (s : List ℕ) (at : ℕ) → good_step s at ≡ true → Short k (shown_at l b s at)
  unfolding shown_at
  short_at s at good = go (joins s at)
    where
      go : (t : Bool) → Short k (cond t (shown_join (join l b (frame_at s (at + 1)))) (shown_split l b (message_at s at) (content_at s at) (room_at s at)))
      go true = short_join s (at + 1) (omega (arith, step_least s at good))
      go false = short_split (message_at s at) (content_at s at) (room_at s at)

-- ---- the lines, and the text

lines_length : (n k : ℕ) (l : Aliases) (b : List Begun) (s : List ℕ) (at : ℕ) → k + n ≤ 1000 → Bounded b → good_steps n s at ≡ true
    → length (lines_from n k l b s at) ≤ n * longest_line
unfolding lines_from
lines_length zero k l b s at h bounds good = omega arith
lines_length (suc n) k l b s at h bounds good =
    let steps = steps_good s at n good in
    let shown = shown_at l b s at in
    let short = short_at k (omega (arith, h)) l b bounds s at steps.0 in
    let rest = lines_length n (suc k) l shown.next s (at + size_at s at) (omega (arith, h)) short.after steps.1 in
    omega (arith, length-append (line_for k shown) (lines_from n (suc k) l shown.next s (at + size_at s at)), short.line, rest)

none_begun : Bounded []
none_begun = record { at_most_two = omega arith; all_short = refl; each_once = refl }

-- No file has a longer text.
pub text_length : (s : List ℕ) → length (text_of s) ≤ longest
unfolding text_of
text_length s = go (good_file s) refl
  where
    go : (t : Bool) → good_file s ≡ t → length (cond t (step_lines (aliases_in s) s) bad_file) ≤ longest
    go true e =
        let good = good_file_lem s e in
        let lines = lines_length (step_count s) 0 (aliases_in s) [] s (steps_at s) (omega (arith, good.count)) none_begun good.steps in
        omega (arith, lines, good.count)
    go false e = omega arith
