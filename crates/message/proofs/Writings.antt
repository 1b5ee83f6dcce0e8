-- What writing answers and leaves, by the tests that a message meets.
use Prim.Native.Nat.{ℕ, ◌+◌, ◌≤◌, ◌<◌}
use mathlib.Core.Path.{◌≡◌, refl, sym, ap, ◌∙◌}
use mathlib.Core.Bool.{Bool, true, false, cond, true≢false}
use mathlib.Core.List.{List, [], ◌∷◌, ◌++◌}
use native.Mathlib.Omega.{arith}
use borrow.Author.Tests.{lt-ltb, le-ltb}
use lib.ListN.{length, length-append}
use Rattle.std.specs.Prelude.{Option, Some, None as Missing, Ok, Err}
use Rattle.numbers.specs.Numbers.{bytes_of, pasted}
use Rattle.numbers.proofs.Laws.{bytes_length}
use Rattle.basics.proofs.Bools.{neither}
use Rattle.message.specs.declared.Message.{Message}
use Rattle.message.specs.Mti.{addressed, carries_event, content_at, barred}
use Rattle.basics.specs.Refusals.{refuse, first_of, answered, told_of, None}
use Rattle.message.specs.Messages.{field_bytes, message_bytes, misplaced, bad_nodes, bad_content, other_source, content_tests}
use Rattle.message.specs.Writing.{no_room, write_tests, write_told, write_of, overwritten, out_after}
use Rattle.message.proofs.Laws.{Placed}
use Rattle.message.proofs.Tellings.{write_told_lem}
use Rattle.basics.proofs.Firsts.{first_some, first_none, first_after, first_passed, rest_passed, answered_yes, answered_no}
use Rattle.numbers.proofs.Pasting.{pasted_first}

-- ---- how long a message is

pub field_length : (w : ℕ) (flag : Bool) (f : Option ℕ) → misplaced flag f ≡ false → length (field_bytes w f) ≡ cond flag w 0
field_length w true (Some x) e = bytes_length w x
field_length w false (Some x) e = absurd (true≢false e)
field_length w true Missing e = absurd (true≢false e)
field_length w false Missing e = refl

-- The fields of a message take as many bytes as its MTI flags.
pub message_length_lem : (m : Message) (s : List ℕ) → Placed m → length (message_bytes m s) ≡ content_at m.mti + length s
message_length_lem m s p =
    let l₁ = length-append (bytes_of 2 m.mti) (bytes_of 6 m.source ++ (field_bytes 6 m.destination ++ (field_bytes 8 m.event ++ s))) in
    let l₂ = length-append (bytes_of 6 m.source) (field_bytes 6 m.destination ++ (field_bytes 8 m.event ++ s)) in
    let l₃ = length-append (field_bytes 6 m.destination) (field_bytes 8 m.event ++ s) in
    let l₄ = length-append (field_bytes 8 m.event) s in
    let d = field_length 6 (addressed m.mti) m.destination p.destination in
    let e = field_length 8 (carries_event m.mti) m.event p.event in
    omega (arith, bytes_length 2 m.mti, bytes_length 6 m.source)

-- ---- what a message that passes its tests is like

pub content_passed : (m : Message) (s : List ℕ) → first_of (content_tests m s) ≡ 0 → None (content_tests m s)
content_passed m s e = (first_none (content_tests m s) refl).0 e

-- No test of the list applies: the three facts.
pub passed_tests : (m : Message) (s : List ℕ) → first_of (content_tests m s) ≡ 0 → (bad_nodes m ≡ false) × (bad_content m s ≡ false) × (other_source m s ≡ false)
passed_tests m s e = (first_passed p, first_passed (rest_passed p), first_passed (rest_passed (rest_passed p)))
  where
    p : None (content_tests m s)
    p = content_passed m s e

pub content_placed : (m : Message) (s : List ℕ) → bad_content m s ≡ false → Placed m
unfolding bad_content
content_placed m s e =
    let h = neither (misplaced (addressed m.mti) m.destination) _ e in
    record { destination = h.0; event = (neither (misplaced (carries_event m.mti) m.event) _ h.1).0 }

-- ---- the answers

-- What a refusal's number tells and leaves.
pub record Answers (n : ℕ) (m : Message) (s out : List ℕ) : Type 0 where
  pub tells : record { refusal = n; value = [] } ≡ write_told m s out
  pub kept : out ≡ out_after m s out

refused : (n : ℕ) (m : Message) (s out : List ℕ) → (n ≡ 0 → ⊥) → first_of (write_tests m s out) ≡ n → Answers n m s out
unfolding write_of out_after
refused n m s out p e = record {
  tells = ap told_of (sym (ap (λ (k : ℕ). answered Ok Err k (length (message_bytes m s))) e ∙ answered_no Ok Err n (length (message_bytes m s)) p)) ∙ write_told_lem m s out;
  kept = sym (ap (λ (k : ℕ). answered (overwritten out) (λ _. out) k (message_bytes m s)) e ∙ answered_no (overwritten out) (λ _. out) n (message_bytes m s) p);
}

pub write_barred : (m : Message) (s out : List ℕ) → barred m.mti ≡ true → Answers 2 m s out
write_barred m s out e = refused 2 m s out (λ z. omega (arith, z)) (rw e)

module _ (m : Message) (s out : List ℕ) (free : barred m.mti ≡ false) where
  pub write_content : (first_of (content_tests m s) ≡ 0 → ⊥) → Answers (first_of (content_tests m s)) m s out
  write_content h = refused (first_of (content_tests m s)) m s out h (rw free (first_some (content_tests m s) (refuse 6 (no_room m s out) ∷ []) h))

  module _ (good : first_of (content_tests m s) ≡ 0) where
    last_test : first_of (write_tests m s out) ≡ first_of (refuse 6 (no_room m s out) ∷ [])
    last_test = rw free (first_after (content_passed m s good) (refuse 6 (no_room m s out) ∷ []))

    pub write_full : length out < length (message_bytes m s) → Answers 6 m s out
    write_full h = refused 6 m s out (λ z. omega (arith, z)) (last_test ∙ ap (λ (t : Bool). cond t 6 0) (lt-ltb (length out) (length (message_bytes m s)) h))

    pub write_done : length (message_bytes m s) ≤ length out → (Ok (length (message_bytes m s)) ≡ write_of m s out) × (pasted 0 (message_bytes m s) out ≡ out_after m s out)
    unfolding write_of out_after
    write_done h =
        let none-applies = last_test ∙ ap (λ (t : Bool). cond t 6 0) (le-ltb (length out) (length (message_bytes m s)) h) in (
          sym (answered_yes Ok Err (length (message_bytes m s)) none-applies),
          pasted_first (message_bytes m s) out ∙ sym (answered_yes (overwritten out) (λ _. out) (message_bytes m s) none-applies),
        )
