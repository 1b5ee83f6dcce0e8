-- Out of bounds, by its tests in the code's order.
use Prim.Native.Nat.{ℕ, ◌≤◌}
use mathlib.Core.Path.{◌≡◌, refl, sym, ap, ◌∙◌}
use mathlib.Core.Bool.{Bool, true, not}
use borrow.Author.Tests.{ltb-false, ne_eqb}
use lib.Dec.{eqb}
use Rattle.std.specs.Prelude.{Result, Ok, Err}
use Rattle.std.specs.Result.{is_err}
use Rattle.basics.specs.declared.Refusal.{Refusal}
use Rattle.basics.proofs.Numbers.{refusal_numbered}
use Rattle.range.specs.Range.{has_number}
use Rattle.range.specs.Answer.{number_told}
use Rattle.node_rules.specs.declared.Node.{Node}
use lib.ListN.{length}
use Rattle.range.proofs.Laws.{number_parts, number_says}
use Rattle.basics.specs.Refusals.{first_of, in_numbers, refusal_in, refusal_number, told_or}
use Rattle.basics.proofs.Firsts.{first_none, first_passed, rest_passed}
use Rattle.node_rules.specs.Calls.{board_tests, reply_tests}
use Rattle.node_rules.proofs.Bounds.{in_bounds}
use Rattle.node.specs.Lent.{Checked}
use Rattle.node_rules.specs.Boards.{Slots, Board, bad_lengths, out_of_bounds}

-- A block has a number unless it is refused one.
pub unnumbered : (n : Node) (r : Result ℕ Refusal) → told_or 0 (in_numbers r) ≡ number_told n.automatic → is_err r ≡ not (has_number n.automatic)
unnumbered n r e = by_case r ∙ sym (ap not (number_says n.automatic r r e refl))
  where
    by_case : (r : Result ℕ Refusal) → is_err r ≡ not (eqb (refusal_in r) 0)
    by_case (Ok x) = refl
    by_case (Err k) = sym (ap not (ne_eqb (refusal_number k) 0 (refusal_numbered k)))

abbrev pub unequal : Slots → Bool
unequal s = bad_lengths (length s.roles) (length s.events) (length s.statuses) (length s.marks)

pub bounds_lengths : (b : Board) → unequal b.slots ≡ true → out_of_bounds b ≡ true
unfolding out_of_bounds
bounds_lengths b l = rw l

pub checked : (b : Board) → 0 ≡ first_of (board_tests b) → Checked b
checked b h =
    let passed = (first_none (board_tests b) refl).0 (sym h) in
    let l = in_bounds b (first_passed passed) in
    record {
      node = first_passed (rest_passed passed);
      block = (number_parts b.node.automatic l.automatic).1;
      lengths = record { events = l.events; statuses = l.statuses; marks = l.marks };
      few = l.few;
    }

-- The messages fit.
pub room_enough : (bytes room : ℕ) → 0 ≡ first_of (reply_tests bytes room) → bytes ≤ room
room_enough bytes room h =
    let passed = (first_none (reply_tests bytes room) refl).0 (sym h) in
    ltb-false room bytes (first_passed (rest_passed passed))
