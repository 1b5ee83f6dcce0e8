-- How large what a call leaves can be: the refusal's number, the bytes written, the state and the marks.
use Prim.Native.Nat.{ℕ, zero, suc, ◌≤◌}
use mathlib.Core.Path.{◌≡◌, refl, ap, ◌∙◌}
use mathlib.Core.Bool.{Bool, true, false, cond}
use mathlib.Core.List.{List, [], ◌∷◌}
use native.Mathlib.Omega.{arith}
use borrow.Author.Tests.{ltb-false}
use lib.ListN.{length, length-append}
use Rattle.basics.specs.Refusals.{numbered_up_to, first_of, answered, None}
use Rattle.basics.proofs.Each.{each_length, each_up_to}
use Rattle.basics.proofs.Firsts.{first_up_to, first_none, first_passed, rest_passed}
use Rattle.message.specs.Messages.{bad_node, message_bytes}
use Rattle.range.specs.Range.{in_block}
use Rattle.node_rules.specs.declared.Call.{Call}
use Rattle.node_rules.specs.declared.Call.TheVariants.{Initialise, Announce, Produce, SetStatus, Receive}
use Rattle.node_rules.specs.Boards.{Binary, Slots, Board, advertised, unadvertised, event_of, mark_of, advertise}
use Rattle.node_rules.specs.Sending.{complete_by, whole_bytes, advertising}
use Rattle.node_rules.specs.Calls.{Outcome, refusing, accepted, size, tests_of, outcome}
use Rattle.node_rules.proofs.Pieces.{complete_content, complete_length}
use Rattle.node_rules.proofs.Marking.{like}
use Rattle.node_rules.proofs.Steps.{Happened, all_numbered, happened}
use Rattle.node_rules.proofs.Steps.Happened.{refused, restarts, identifies, reports, sets}
use Rattle.node_rules.proofs.Exactly.{refusal_first, accepted_exactly}
use Rattle.node_rules.proofs.Bounds.{in_bounds}

-- ---- what is written

tests_up_to : (b : Board) (call : Call) (bytes : List ℕ) (room : ℕ) → numbered_up_to 13 (tests_of b call bytes room) ≡ true
tests_up_to b Initialise bytes room = refl
tests_up_to b (Announce i) bytes room = refl
tests_up_to b (Produce i) bytes room = refl
tests_up_to b (SetStatus i status) bytes room = refl
tests_up_to b Receive bytes room = refl

-- Every test was passed, that of 1,024 bytes among them.
accepted_size : (b : Board) (call : Call) (bytes : List ℕ) (room : ℕ) → None (tests_of b call bytes room) → size (accepted b call bytes).sent ≤ 1024
accepted_size b Initialise bytes room p =
    let id = b.node.id in
    let node : bad_node id ≡ false = first_passed (rest_passed p) in
    let whole : length (whole_bytes (complete_by id)) ≡ 14
    = ap (λ (l : List ℕ). length (message_bytes (complete_by id) l)) (complete_content id node) ∙ complete_length id node in
    omega (arith, length-append (whole_bytes (complete_by id)) [], whole)
accepted_size b (Announce i) bytes room p = ltb-false 1024 _ (first_passed (rest_passed (rest_passed (rest_passed (rest_passed p)))))
accepted_size b (Produce i) bytes room p =
    ltb-false 1024 _ (first_passed (rest_passed (rest_passed (rest_passed (rest_passed (rest_passed (rest_passed p)))))))
accepted_size b (SetStatus i status) bytes room p = omega arith
accepted_size b Receive bytes room p =
    ltb-false 1024 _
    (first_passed (rest_passed (rest_passed (rest_passed (rest_passed (rest_passed (rest_passed (rest_passed (rest_passed p)))))))))

module _ (b : Board) (call : Call) (bytes : List ℕ) (room : ℕ) where
  -- A board refuses with 13 at most.
  pub call_up_to : (outcome b call bytes room).refusal ≤ 13
  call_up_to = omega (arith, refusal_first b call bytes room, first_up_to 13 (tests_of b call bytes room) (tests_up_to b call bytes room))

  pub call_size : size (outcome b call bytes room).sent ≤ 1024
  unfolding outcome
  call_size = go (first_of (tests_of b call bytes room)) refl
    where
      go : (k : ℕ) → first_of (tests_of b call bytes room) ≡ k → size (answered (λ o. o) (refusing b) k (accepted b call bytes)).sent ≤ 1024
      go zero e = accepted_size b call bytes room ((first_none (tests_of b call bytes room) (all_numbered b call bytes room)).0 e)
      go (suc k) e = omega arith

  -- A call is accepted on at most 64 slots.
  pub accepted_few : (outcome b call bytes room).refusal ≡ 0 → length b.slots.marks ≤ 64
  accepted_few e =
      let i = in_bounds b (first_passed ((accepted_exactly b call bytes room).0 e)) in
      omega (arith, i.marks, i.few)

-- ---- state and marks

mark_or : (t : Bool) (old : ℕ) → old ≤ advertised → cond t advertised old ≤ advertised
mark_or true old h = omega arith
mark_or false old h = h

advertising_binary : (js : List ℕ) (s : Slots) → ((i : ℕ) → mark_of s i ≤ advertised) → (i : ℕ) → mark_of (advertising s js) i ≤ advertised
advertising_binary [] s h = h
advertising_binary (j ∷ js) s h =
    advertising_binary js (advertise s j) (each_up_to (length s.marks) advertised _ (λ i. mark_or (like s j i) (mark_of s i) (h i)))

advertising_length : (js : List ℕ) (s : Slots) → length (advertising s js).marks ≡ length s.marks
advertising_length [] s = refl
advertising_length (j ∷ js) s = advertising_length js (advertise s j) ∙ each_length (length s.marks) _

happened_binary : {b : Board} {c : Call} {o : Outcome} → Binary b → Happened b c o → Binary o.next
happened_binary t (refused n h) = t
happened_binary {b = b} t (restarts i h) = record {
  state = omega arith;
  marks = each_up_to (length b.slots.marks) advertised _ (λ i. mark_or (in_block b.node.automatic (event_of b.slots i)) unadvertised (omega arith));
}
happened_binary {b = b} t (identifies js matches i h s) = record { state = t.state; marks = advertising_binary js b.slots t.marks }
happened_binary t (reports i f h s r m) = t
happened_binary t (sets i status f l) = record { state = t.state; marks = t.marks }

happened_marks : {b : Board} {c : Call} {o : Outcome} → Happened b c o → length o.next.slots.marks ≡ length b.slots.marks
happened_marks (refused n h) = refl
happened_marks {b = b} (restarts i h) = each_length (length b.slots.marks) _
happened_marks {b = b} (identifies js matches i h s) = advertising_length js b.slots
happened_marks (reports i f h s r m) = refl
happened_marks (sets i status f l) = refl

module _ (b : Board) (call : Call) (bytes : List ℕ) (room : ℕ) where
  pub call_binary : Binary b → Binary (outcome b call bytes room).next
  call_binary t = happened_binary t (happened b call bytes room)

  -- There are as many marks as before.
  pub call_marks : length (outcome b call bytes room).next.slots.marks ≡ length b.slots.marks
  call_marks = happened_marks (happened b call bytes room)
