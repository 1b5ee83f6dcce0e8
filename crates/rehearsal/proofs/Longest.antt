-- How long a board file's text can be, over every file.
use Prim.Native.Nat.{ℕ, zero, suc, ◌+◌, ◌*◌, ◌≤◌, ◌<◌}
use mathlib.Core.Path.{◌≡◌, refl, ap}
use mathlib.Core.Bool.{Bool, true, false, cond}
use mathlib.Core.List.{List, [], ◌∷◌, ◌++◌}
use native.Mathlib.Omega.{arith}
use borrow.Author.Tests.{eqb-true, eqb-false}
use lib.Dec.{eqb, leb}
use lib.ListN.{length, get_or, length-append}
use Rattle.numbers.specs.Numbers.{bytes_of}
use Rattle.numbers.proofs.Laws.{bytes_length}
use Rattle.basics.specs.Sets.{set_of}
use Rattle.basics.proofs.Each.{each_length, each_up_to}
use Rattle.text.specs.Text.{decimal, hex_of, bad_file, or_dash}
use Rattle.text.proofs.Lengths.{decimal_length, hex_length}
use Rattle.node_rules.specs.declared.Call.{Call}
use Rattle.node_rules.specs.Boards.{Binary, Board, unadvertised, advertised}
use Rattle.node_rules.specs.Sending.{all_bytes}
use Rattle.node_rules.specs.Calls.{Outcome, outcome}
use Rattle.node_rules.proofs.Exactly.{refused_keeps}
use Rattle.node_rules.proofs.Limits.{call_up_to, call_size, accepted_few, call_binary, call_marks}
use Rattle.rehearsal.specs.Files.{slot_count, board_in, calls_at, size_at, call_at, message_at, room_at, outcome_at, good_file, most_calls}
use Rattle.rehearsal.specs.Lines.{digits_of, line_of, line_for, lines_from, call_lines, text_of, longest_line, longest}
use Rattle.rehearsal.proofs.Good.{good_file_lem}

-- ---- the parts of a line

dash_length : (n : ℕ) (xs : List ℕ) → 1 ≤ n → length xs ≤ n → length (or_dash xs) ≤ n
dash_length n [] h l = h
dash_length n (x ∷ xs) h l = l

bytes_length_in : (n : ℕ) (bytes : List ℕ) → 1 ≤ n → 2 * length bytes ≤ n → length (or_dash (hex_of bytes)) ≤ n
bytes_length_in n bytes h l = dash_length n (hex_of bytes) h (omega (arith, hex_length bytes))

-- A mark that is 0 or 1 has one digit.
digits_length : (marks : List ℕ) → ((i : ℕ) → get_or marks i 0 ≤ advertised) → length (digits_of marks) ≤ length marks
unfolding digits_of
digits_length [] h = omega arith
digits_length (x ∷ xs) h =
    let one : x ≤ 1 = h 0 in
    omega (arith, length-append (decimal x) (digits_of xs), decimal_length 1 x (omega arith) (omega (arith, one)), digits_length xs (λ i. h (suc i)))

-- Of a line in which the refusal, the bytes and the marks have at most so many bytes.
parts_length : (r b m k refusal : ℕ) (bytes : List ℕ) (matches state : ℕ) (marks : List ℕ)
    → k < 1000 → length (decimal refusal) ≤ r → length (or_dash (hex_of bytes)) ≤ b → state ≤ 1 → length (or_dash (digits_of marks)) ≤ m
    → length (line_of k refusal bytes matches state marks) ≤ 26 + r + b + m
unfolding line_of
parts_length r b m k refusal bytes matches state marks hk hr hb hs hm =
    let number = decimal_length 3 k (omega arith) (omega (arith, hk)) in
    let one = decimal_length 1 state (omega arith) (omega (arith, hs)) in
    let set = hex_length (bytes_of 8 matches) in
    let eight = bytes_length 8 matches in
    simp length-append (omega (arith, number, one, set, eight, hr, hb, hm))

-- ---- a line

module _ (k : ℕ) (b : Board) (call : Call) (bytes : List ℕ) (room : ℕ) (hk : k < 1000) (binary : Binary b) (few : length b.slots.marks ≤ 100) where
  abbrev o : Outcome
  o = outcome b call bytes room

  after : Binary o.next
  after = call_binary b call bytes room binary

  marks_length : (n : ℕ) → 1 ≤ n → length b.slots.marks ≤ n → length (or_dash (digits_of o.next.slots.marks)) ≤ n
  marks_length n h l =
      dash_length n (digits_of o.next.slots.marks) h (omega (arith, digits_length o.next.slots.marks after.marks, call_marks b call bytes room))

  -- An accepted call has at most 64 marks and 1,024 bytes, a refused one 100 marks and no bytes.
  line_length : length (line_for k o) ≤ longest_line
  line_length = go (eqb o.refusal 0) refl
    where
      go : (t : Bool) → eqb o.refusal 0 ≡ t → length (line_for k o) ≤ longest_line
      go true e =
          let none = eqb-true o.refusal 0 e in
          let digits = decimal_length 1 o.refusal (omega arith) (omega (arith, none)) in
          let size = bytes_length_in 2048 (all_bytes o.sent) (omega arith) (omega (arith, call_size b call bytes room)) in
          let marks = marks_length 64 (omega arith) (accepted_few b call bytes room none) in
          parts_length 1 2048 64 k o.refusal (all_bytes o.sent) (set_of 64 o.matches) o.next.node.state o.next.slots.marks hk digits size after.state marks
      go false e =
          let digits = decimal_length 2 o.refusal (omega arith) (omega (arith, call_up_to b call bytes room)) in
          let nothing : length (all_bytes o.sent) ≡ 0 = ap (λ (x : Outcome). length (all_bytes x.sent)) (refused_keeps b call bytes room (eqb-false o.refusal 0 e)) in
          let size = bytes_length_in 1 (all_bytes o.sent) (omega arith) (omega (arith, nothing)) in
          let marks = marks_length 100 (omega arith) few in
          let whole = parts_length 2 1 100 k o.refusal (all_bytes o.sent) (set_of 64 o.matches) o.next.node.state o.next.slots.marks hk digits size after.state marks in
          omega (arith, whole)

-- ---- the lines, and the text

lines_length : (n k : ℕ) (b : Board) (s : List ℕ) (at : ℕ) → k + n ≤ 1000 → Binary b → length b.slots.marks ≤ 100
    → length (lines_from n k b s at) ≤ n * longest_line
unfolding lines_from outcome_at
lines_length zero k b s at h binary few = omega arith
lines_length (suc n) k b s at h binary few = go (leb (length s) at) (lines_length n (suc k) next s (at + size_at s at) (omega (arith, h)) after marks)
  where
    call : Call
    call = call_at s at

    next : Board
    next = (outcome b call (message_at s at) (room_at s at)).next

    after : Binary next
    after = call_binary b call (message_at s at) (room_at s at) binary

    marks : length next.slots.marks ≤ 100
    marks = omega (arith, call_marks b call (message_at s at) (room_at s at), few)

    go : (t : Bool) → length (lines_from n (suc k) next s (at + size_at s at)) ≤ n * longest_line
        → length (cond t [] (line_for k (outcome_at b s at) ++ lines_from n (suc k) next s (at + size_at s at))) ≤ suc n * longest_line
    go true r = omega arith
    go false r =
        omega (
          arith,
          length-append (line_for k (outcome_at b s at)) (lines_from n (suc k) next s (at + size_at s at)),
          line_length k b call (message_at s at) (room_at s at) (omega (arith, h)) binary few,
          r,
        )

-- No file has a longer text.
pub text_length : (s : List ℕ) → length (text_of s) ≤ longest
unfolding text_of
text_length s = go (good_file s) refl
  where
    binary : Binary (board_in s)
    binary = record { state = omega arith; marks = each_up_to (slot_count s) advertised (λ _. unadvertised) (λ _. omega arith) }

    go : (t : Bool) → good_file s ≡ t → length (cond t (call_lines (board_in s) s) bad_file) ≤ longest
    go true e =
        lines_length most_calls 0 (board_in s) s (calls_at s) (omega arith) binary
        (omega (arith, (good_file_lem s e).count, each_length (slot_count s) (λ (_ : ℕ). unadvertised)))
    go false e = omega arith
