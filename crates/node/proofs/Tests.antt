-- The tests of each call as the code makes them, and the answer where none applies.
use Prim.Native.Nat.{ℕ, ◌*◌, ◌≤◌, ◌<◌}
use mathlib.Core.Path.{◌≡◌, refl, sym, ap, ◌∙◌}
use mathlib.Core.Bool.{Bool, false, cond, ◌||◌, or-true}
use mathlib.Core.List.{List, [], ◌∷◌, ◌++◌, append-nil}
use native.Mathlib.Omega.{arith}
use borrow.Author.Tests.{eq-eqb, ne_eqb, le-leb, lt-leb, lt-ltb, le-ltb}
use lib.Dec.{leb, ltb}
use lib.ListN.{length}
use Rattle.numbers.specs.Numbers.{bytes_of, pasted}
use Rattle.basics.specs.declared.Refusal.{Refusal}
use Rattle.basics.specs.Refusals.{first_of, refusal_number}
use Rattle.basics.proofs.Sets.{nobody}
use Rattle.message.specs.Saying.{producer}
use Rattle.message.specs.Messages.{bad_node, message_bytes}
use Rattle.node_rules.specs.declared.Call.TheVariants.{Initialise, Announce, Produce, SetStatus}
use Rattle.node_rules.specs.Boards.{Board, advertised, unknown, count, role_of, event_of, mark_of}
use Rattle.node_rules.specs.Sending.{complete_by, report, identified, identifying, whole_bytes, all_bytes}
use Rattle.node_rules.specs.Calls.{size, slot_tests, producer_tests, reply_tests, accepted, call_tests, restarted}
use Rattle.node_rules.proofs.Once.{identifying_size}
use Rattle.node_rules.proofs.Pieces.{plain_length, plain_whole, report_plain, complete_content, complete_length}
use Rattle.node.specs.Answers.{answer, answer_of}
use Rattle.node.proofs.Calling.{refused_by, passed_by}

-- ---- initialise

module _ (b : Board) (node : bad_node b.node.id ≡ false) (bytes : List ℕ) where
  complete_bytes : all_bytes (complete_by b.node.id ∷ []) ≡ message_bytes (complete_by b.node.id) (bytes_of 6 b.node.id)
  complete_bytes = append-nil _ ∙ ap (message_bytes (complete_by b.node.id)) (complete_content b.node.id node)

  fourteen : size (complete_by b.node.id ∷ []) ≡ 14
  fourteen = ap length complete_bytes ∙ complete_length b.node.id node

  pub initialise_full : {room : ℕ} → room < 14 → first_of (call_tests b Initialise bytes room) ≡ 6
  initialise_full {room} h = ap (λ (t : Bool). cond t 6 0) (lt-ltb room _ (omega (arith, h, fourteen)))

  pub initialise_fits : {room : ℕ} → 14 ≤ room → first_of (call_tests b Initialise bytes room) ≡ 0
  initialise_fits {room} h = ap (λ (t : Bool). cond t 6 0) (le-ltb room _ (omega (arith, h, fourteen)))

  pub initialise_answer : answer 0 1 14 0 (restarted b).node ≡ answer_of (accepted b Initialise bytes)
  initialise_answer i = answer 0 1 (sym fourteen i) (sym (nobody 64) i) (restarted b).node

  pub initialise_bytes : (out : List ℕ) → pasted 0 (message_bytes (complete_by b.node.id) (bytes_of 6 b.node.id)) out
      ≡ pasted 0 (all_bytes (accepted b Initialise bytes).sent) out
  initialise_bytes out = ap (λ (l : List ℕ). pasted 0 l out) (sym complete_bytes)

-- ---- announce and produce: one message with an event

module _ (b : Board) (i : ℕ) (bytes : List ℕ) where
  sixteen : size (accepted b (Announce i) bytes).sent ≡ 16
  sixteen = identifying_size b (i ∷ [])

  pub announce_answer : answer 0 1 (1 * 16) 0 b.node ≡ answer_of (accepted b (Announce i) bytes)
  announce_answer k = answer 0 1 (sym sixteen k) (sym (nobody 64) k) b.node

  pub announce_bytes : (out : List ℕ) → pasted 0 (whole_bytes (identified b i)) out ≡ pasted 0 (all_bytes (accepted b (Announce i) bytes).sent) out
  announce_bytes out = ap (λ (l : List ℕ). pasted 0 l out) (sym (append-nil (whole_bytes (identified b i))))

  report_bytes : all_bytes (report b i ∷ []) ≡ message_bytes (report b i) []
  report_bytes = append-nil (whole_bytes (report b i)) ∙ plain_whole report_plain b.node.id (event_of b.slots i)

  report_size : size (report b i ∷ []) ≡ 16
  report_size = ap length report_bytes ∙ plain_length report_plain b.node.id (event_of b.slots i)

  pub produce_answer : answer 0 1 (1 * 16) 0 b.node ≡ answer_of (accepted b (Produce i) bytes)
  produce_answer k = answer 0 1 (sym report_size k) (sym (nobody 64) k) b.node

  pub produce_bytes : (out : List ℕ) → pasted 0 (message_bytes (report b i) []) out ≡ pasted 0 (all_bytes (accepted b (Produce i) bytes).sent) out
  produce_bytes out = ap (λ (l : List ℕ). pasted 0 l out) (sym report_bytes)

  module _ (room : ℕ) (r : Refusal) (e : refusal_number r ≡ first_of (slot_tests b i)) where
    pub announce_slot : first_of (call_tests b (Announce i) bytes room) ≡ refusal_number r
    announce_slot = refused_by (slot_tests b i) (reply_tests (size (identifying b (i ∷ []))) room) r e

    pub produce_slot : first_of (call_tests b (Produce i) bytes room) ≡ refusal_number r
    produce_slot = refused_by (slot_tests b i) (producer_tests b i ++ reply_tests (size (report b i ∷ [])) room) r e

  module _ (room : ℕ) (there : 0 ≡ first_of (slot_tests b i)) where
    pub announce_room : first_of (call_tests b (Announce i) bytes room) ≡ first_of (reply_tests (1 * 16) room)
    announce_room =
        passed_by (slot_tests b i) (reply_tests (size (identifying b (i ∷ []))) room) refl there
        ∙ ap (λ (k : ℕ). first_of (reply_tests k room)) sixteen

    after_slot : first_of (call_tests b (Produce i) bytes room) ≡ first_of (producer_tests b i ++ reply_tests (size (report b i ∷ [])) room)
    after_slot = passed_by (slot_tests b i) (producer_tests b i ++ reply_tests (size (report b i ∷ [])) room) refl there

    pub produce_consumer : (role_of b.slots i ≡ producer → ⊥) → first_of (call_tests b (Produce i) bytes room) ≡ 11
    produce_consumer h = after_slot ∙ (rw (ne_eqb (role_of b.slots i) producer h))

    module _ (r : role_of b.slots i ≡ producer) where
      pub produce_unadvertised : (mark_of b.slots i ≡ advertised → ⊥) → first_of (call_tests b (Produce i) bytes room) ≡ 12
      produce_unadvertised h = after_slot ∙ (rw (eq-eqb (role_of b.slots i) producer r, ne_eqb (mark_of b.slots i) advertised h))

      pub produce_room : mark_of b.slots i ≡ advertised → first_of (call_tests b (Produce i) bytes room) ≡ first_of (reply_tests (1 * 16) room)
      produce_room m =
          after_slot
          ∙ (rw (eq-eqb (role_of b.slots i) producer r, eq-eqb (mark_of b.slots i) advertised m) (ap (λ (k : ℕ). first_of (reply_tests k room)) report_size))

-- ---- set a slot's status

pub status_answer : (b : Board) (i status : ℕ) (bytes : List ℕ) → answer 0 0 (0 * 16) 0 b.node ≡ answer_of (accepted b (SetStatus i status) bytes)
status_answer b i status bytes k = answer 0 0 0 (sym (nobody 64) k) b.node

module _ (b : Board) (i status : ℕ) (bytes : List ℕ) (room : ℕ) where
  pub status_no_slot : count b.slots ≤ i → first_of (call_tests b (SetStatus i status) bytes room) ≡ 10
  status_no_slot h = ap (λ (t : Bool). cond (t || ltb unknown status) 10 0) (le-leb (count b.slots) i h)

  pub status_bad : unknown < status → first_of (call_tests b (SetStatus i status) bytes room) ≡ 10
  status_bad h =
      ap (λ (t : Bool). cond t 10 0) (ap (λ (t : Bool). leb (count b.slots) i || t) (lt-ltb unknown status h) ∙ or-true (leb (count b.slots) i))

  pub status_good : i < count b.slots → status ≤ unknown → first_of (call_tests b (SetStatus i status) bytes room) ≡ 0
  status_good h g = rw (lt-leb (count b.slots) i h, le-ltb unknown status g)
