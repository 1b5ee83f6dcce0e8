-- What a call of the file leaves, from what the board's call promises.
use Prim.Native.Nat.{ℕ, ◌+◌, ◌-◌, ◌≤◌}
use mathlib.Core.Path.{◌≡◌, subst, ap, ◌∙◌}
use mathlib.Core.List.{List, ◌++◌}
use native.Mathlib.Omega.{arith}
use lib.ListN.{length, take, drop, length-append}
use lib.Seq.{take_at, take-append-le, take-append_seam, length-take-le}
use Rattle.node_rules.specs.declared.Call.{Call}
use Rattle.node_rules.specs.Boards.{Slots, Board}
use Rattle.node_rules.specs.Sending.{all_bytes}
use Rattle.node_rules.specs.Calls.{Outcome, outcome}
use Rattle.node.specs.declared.Answer.{Answer}
use Rattle.node.specs.Lent.{board_of}
use Rattle.node.specs.Answers.{Result, result, answer_of, result_by}
use Rattle.rehearsal.specs.Files.{head_size, outcome_at, call_in, size_at, message_at, call_at, room_at}
use Rattle.rehearsal.specs.Calls.{CallLeft}

-- A call on the first bytes of an output.
pub call_left : (o : Outcome) (a : Answer) (s : Slots) (part part' rest : List ℕ) → result a s part' ≡ result_by part o → length part' ≡ length part → length part ≤ 2048
    → CallLeft o a (board_of a.node s) (part' ++ rest)
call_left o a s part part' rest e kept small =
    let answers : a ≡ answer_of o = ap (λ (l : Result). l.answer) e in
    let written : part' ≡ all_bytes o.sent ++ drop (length (all_bytes o.sent)) part = ap (λ (l : Result). l.out) e in
    let size : a.bytes ≡ length (all_bytes o.sent) = ap (λ (x : Answer). x.bytes) answers in
    let fits : length (all_bytes o.sent) ≤ length part' = omega (arith, ap length written, length-append (all_bytes o.sent) (drop (length (all_bytes o.sent)) part)) in
    record {
      answered = answers;
      next = λ i. record { node = (answers i).node; slots = (e i).slots };
      few = omega (arith, size, fits, kept, small);
      bytes = ap (λ (n : ℕ). take n (part' ++ rest)) size
          ∙ take-append-le (length (all_bytes o.sent)) part' rest fits
          ∙ ap (take (length (all_bytes o.sent))) written
          ∙ take-append_seam (all_bytes o.sent) (drop (length (all_bytes o.sent)) part);
    }

-- The bytes from after a call's head to its end.
pub message_at_lem : (s : List ℕ) (at : ℕ) {head size : ℕ} → head ≡ head_size (call_in s at) → size ≡ size_at s at → take (at + size - (at + head)) (drop (at + head) s) ≡ message_at s at
message_at_lem s at {head} {size} e f =
    let width : at + size - (at + head) ≡ size - head = omega arith in
    ap (λ (n : ℕ). take n (drop (at + head) s)) width ∙ λ i. take (f i - e i) (drop (at + e i) s)

-- The outcome of the call that the file's numbers say.
pub outcome_at_lem : (b : Board) (s : List ℕ) (at : ℕ) {call : Call} {bytes : List ℕ} {room : ℕ} → call ≡ call_at s at → bytes ≡ message_at s at → room ≡ room_at s at
    → outcome b call bytes room ≡ outcome_at b s at
unfolding outcome_at
outcome_at_lem b s at e f g = λ i. outcome b (e i) (f i) (g i)

-- The first places of a list are those that a call left in the part that was lent.
pub left_first : (n : ℕ) (l part : List ℕ) → length part ≡ length (take n l) → n ≤ length l → take n (part ++ drop n l) ≡ part
left_first n l part e h = take_at part (drop n l) n (e ∙ length-take-le n l h)

-- The same of boards that are equal.
pub viewed : (s : List ℕ) (at : ℕ) {b b' left left' : Board} {a : Answer} {out : List ℕ} → b ≡ b' → left ≡ left'
    → CallLeft (outcome_at b s at) a left out → CallLeft (outcome_at b' s at) a left' out
viewed s at {b} {left' = left'} {a} {out} e f l =
    subst (λ (x : Board). CallLeft (outcome_at x s at) a left' out) e (subst (λ (x : Board). CallLeft (outcome_at b s at) a x out) f l)
