-- What reading answers, by the tests that a byte string meets.
use Prim.Native.Nat.{ℕ, ◌≤◌, ◌<◌}
use mathlib.Core.Path.{◌≡◌, refl, sym, ap, ◌∙◌}
use mathlib.Core.Bool.{Bool, true, false, cond}
use mathlib.Core.List.{List}
use borrow.Author.Tests.{lt-ltb, le-ltb, ltb-false}
use lib.Dec.{ltb}
use lib.ListN.{length, drop}
use Rattle.std.specs.Prelude.{Some, None, Ok, Err}
use Rattle.message.specs.declared.Message.{Message}
use Rattle.message.specs.Mti.{addressed, carries_event, event_at, content_at, barred}
use Rattle.message.specs.Messages.{bad_node, bad_where_present, bad_nodes, misplaced, content_tests, rest_tests}
use Rattle.basics.specs.Refusals.{first_of, answered}
use Rattle.numbers.specs.Numbers.{number_at}
use Rattle.message.specs.Reading.{field_at, mti_in, fields_in, message_in, read_tests, read_of}
use Rattle.basics.proofs.Firsts.{first_none, first_passed, rest_passed, answered_yes, answered_no}
use Rattle.message.proofs.Laws.{nodes_source, nodes_destination, nodes_good, Placed, content_rest}

-- The fields that are read are where they are flagged.
as_flagged : (t : Bool) (x : ℕ) → misplaced t (cond t (Some x) None) ≡ false
as_flagged true x = refl
as_flagged false x = refl

placed_in_lem : (m : ℕ) (s : List ℕ) → Placed (fields_in m s)
unfolding fields_in
placed_in_lem m s = record { destination = as_flagged (addressed m) (number_at s 8 6); event = as_flagged (carries_event m) (number_at s (event_at m) 8) }

-- Nothing is refused only of enough bytes.
pub long_enough : (s : List ℕ) → first_of (read_tests s) ≡ 0 → (2 ≤ length s) × (content_at (mti_in s) ≤ length s)
long_enough s e =
    let passes = (first_none (read_tests s) refl).0 e in
    (ltb-false (length s) 2 (first_passed passes), ltb-false (length s) (content_at (mti_in s)) (first_passed (rest_passed (rest_passed passes))))

pub read_short : (s : List ℕ) → length s < 2 → 1 ≡ first_of (read_tests s)
read_short s h = rw (lt-ltb (length s) 2 h)

module _ (s : List ℕ) {m : ℕ} (mti : m ≡ mti_in s) (long : 2 ≤ length s) where
  pub read_barred : barred m ≡ true → 2 ≡ first_of (read_tests s)
  read_barred e = rw (le-ltb (length s) 2 long, sym (ap barred mti) ∙ e)

  module _ (free : barred m ≡ false) where
    pub read_missing : length s < content_at m → 1 ≡ first_of (read_tests s)
    read_missing h = rw (le-ltb (length s) 2 long, sym (ap barred mti) ∙ free, sym (ap (λ (k : ℕ). ltb (length s) (content_at k)) mti) ∙ lt-ltb (length s) (content_at m) h)

    module _ (whole : content_at m ≤ length s) where
      read_content : first_of (content_tests (fields_in m s) (drop (content_at m) s)) ≡ first_of (read_tests s)
      read_content =
          ap (λ (k : ℕ). first_of (content_tests (fields_in k s) (drop (content_at k) s))) mti
          ∙ (rw (le-ltb (length s) 2 long, sym (ap barred mti) ∙ free, sym (ap (λ (k : ℕ). ltb (length s) (content_at k)) mti) ∙ le-ltb (length s) (content_at m) whole))

      bad_nodes_lem : bad_nodes (fields_in m s) ≡ true → 3 ≡ first_of (read_tests s)
      bad_nodes_lem e = (let refused : 3 ≡ first_of (content_tests (fields_in m s) (drop (content_at m) s)) = rw e in refused) ∙ read_content

      pub read_source : bad_node (number_at s 2 6) ≡ true → 3 ≡ first_of (read_tests s)
      unfolding fields_in
      read_source e = bad_nodes_lem (nodes_source (fields_in m s) e)

      pub read_destination : bad_where_present (field_at (addressed m) s 8 6) ≡ true → 3 ≡ first_of (read_tests s)
      unfolding fields_in
      read_destination e = bad_nodes_lem (nodes_destination (fields_in m s) e)

      pub read_rest : bad_node (number_at s 2 6) ≡ false → bad_where_present (field_at (addressed m) s 8 6) ≡ false
          → first_of (rest_tests m (number_at s 2 6) (drop (content_at m) s)) ≡ first_of (read_tests s)
      unfolding fields_in
      read_rest e f = content_rest (fields_in m s) (drop (content_at m) s) (nodes_good (fields_in m s) e f) (placed_in_lem m s) ∙ read_content

-- ---- the answers

pub read_no : (s : List ℕ) {r : ℕ} → r ≡ first_of (read_tests s) → (r ≡ 0 → ⊥) → Err r ≡ read_of s
unfolding read_of
read_no s {r} e h = sym (answered_no Ok Err r (message_in s) h) ∙ ap (λ (n : ℕ). answered Ok Err n (message_in s)) e

pub read_yes : (s : List ℕ) {r : ℕ} {m : Message} → r ≡ first_of (read_tests s) → r ≡ 0 → m ≡ message_in s → Ok m ≡ read_of s
unfolding read_of
read_yes s e z p = ap Ok p ∙ sym (answered_yes Ok Err (message_in s) (sym e ∙ z))
