-- The ways out of receive.
use Prim.Native.Nat.{ℕ, zero, suc, ◌*◌, ◌≤◌}
use mathlib.Core.Path.{◌≡◌, refl, sym, ap, ◌∙◌, subst}
use mathlib.Core.List.{List, [], ◌∷◌}
use native.Mathlib.Omega.{arith}
use lib.ListN.{length}
use Rattle.basics.specs.Sets.{set_of}
use Rattle.basics.specs.Refusals.{Test, first_of, answered, refusal_number}
use Rattle.std.specs.Prelude.{Ok, Err}
use Rattle.basics.specs.declared.Refusal.{Refusal}
use Rattle.basics.proofs.Numbers.{refusal_numbered}
use Rattle.basics.proofs.Firsts.{first_some, first_after}
use Rattle.message.specs.declared.Message.{Message}
use Rattle.message.specs.declared.Saying.{Saying}
use Rattle.message.specs.Reading.{message_in, read_tests, read_of}
use Rattle.message.proofs.Exactly.{read_accepted}
use Rattle.node_rules.specs.declared.Call.TheVariants.{Receive}
use Rattle.node_rules.specs.Boards.{Board, count}
use Rattle.node_rules.specs.Sending.{identifying}
use Rattle.node_rules.specs.Hearing.{heard_by, answers_at, chosen, answering}
use Rattle.node_rules.specs.Calls.{reply_tests, heard_in, replies, matching, taking, size, call_tests}
use Rattle.node_rules.proofs.Once.{chosen_few, identifying_size}
use Rattle.node.specs.Answers.{answer, answer_of}

how_many_lem : (b : Board) (js : List ℕ) → length (identifying b js) ≡ length js
how_many_lem b [] = refl
how_many_lem b (j ∷ js) = ap suc (how_many_lem b js)

-- The slots that answer, as the code counts them.
abbrev pub answerers : Board → Saying → List ℕ
answerers b s = chosen (count b.slots) (answers_at b.node.automatic b.slots.roles b.slots.events s)

module _ (b : Board) (s : Saying) (n : ℕ) (counted : n ≡ length (answerers b s)) where
  pub few_answer : count b.slots ≤ 64 → n ≤ 64
  few_answer g = omega (arith, counted, g, chosen_few (count b.slots) (answers_at b.node.automatic b.slots.roles b.slots.events s))

  pub answers_fit : (room : ℕ) → n * 16 ≤ room → length (answering b s) * 16 ≤ room
  unfolding answering
  answers_fit room g = subst (λ (k : ℕ). k * 16 ≤ room) counted g

  sixteens : n * 16 ≡ size (replies b s)
  unfolding answering
  sixteens = ap (λ (k : ℕ). k * 16) counted ∙ sym (identifying_size b (answering b s))

  pub taking_answer : (set : ℕ) → set ≡ set_of 64 (matching b s) → answer 0 n (n * 16) set b.node ≡ answer_of (taking b s)
  unfolding answering
  taking_answer set e = λ i. answer 0 ((counted ∙ sym (how_many_lem b (answering b s))) i) (sixteens i) (e i) b.node

module _ (b : Board) (bytes : List ℕ) (room : ℕ) where
  abbrev room_tests : List Test
  room_tests = reply_tests (size (replies b (heard_in b bytes))) room

  -- The number of a reading's refusal is that of its tests.
  pub receive_unread : (r : Refusal) → read_of bytes ≡ Err (refusal_number r) → first_of (call_tests b Receive bytes room) ≡ refusal_number r
  unfolding read_of
  receive_unread r e = let s = go (first_of (read_tests bytes)) e in first_some (read_tests bytes) room_tests (λ z. refusal_numbered r (sym s ∙ z)) ∙ s
    where
      go : (k : ℕ) → answered Ok Err k (message_in bytes) ≡ Err (refusal_number r) → k ≡ refusal_number r
      go zero e = let z : ◌≡◌ {A = ℕ} 0 1 = cc in absurd (omega (arith, z))
      go (suc k) e = cc

  -- A message was read, and so many slots answer what it says to the node.
  module _ (m : Message) (e : read_of bytes ≡ Ok m) (s : Saying) (heard : s ≡ heard_by b.node m) where
    pub heard_in_lem : s ≡ heard_in b bytes
    heard_in_lem = heard ∙ ap (heard_by b.node) ((read_accepted bytes m).0 e).1

    pub receive_room : (n : ℕ) → n ≡ length (answerers b s) → first_of (call_tests b Receive bytes room) ≡ first_of (reply_tests (n * 16) room)
    receive_room n counted =
        first_after ((read_accepted bytes m).0 e).0 room_tests
        ∙ ap (λ (k : ℕ). first_of (reply_tests k room)) (ap (λ (x : Saying). size (replies b x)) (sym heard_in_lem) ∙ sym (sixteens b s n counted))
