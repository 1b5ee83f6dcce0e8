-- What the replies of some slots write and mark, one after another.
use Prim.Native.Nat.{ℕ, ◌+◌, ◌*◌, ◌≤◌, ◌<◌}
use mathlib.Core.Path.{◌≡◌, refl, sym, ap, ◌∙◌, subst}
use mathlib.Core.Bool.{Bool, true, false}
use mathlib.Core.List.{List, [], ◌∷◌, ◌++◌, append-nil, append_assoc}
use native.Mathlib.Omega.{arith}
use lib.ListN.{length}
use Rattle.message.specs.Messages.{message_bytes}
use Rattle.numbers.specs.Numbers.{pasted}
use Rattle.numbers.proofs.Pasting.{Wrote, wrote_none, wrote_room, wrote_more}
use Rattle.message.specs.declared.Saying.{Saying}
use Rattle.node_rules.specs.Boards.{Slots, Board, count, role_of, event_of, status_of, with_marks, advertise}
use Rattle.node_rules.specs.Sending.{with_event, whole_bytes, all_bytes, identified_mti, identified, identifying, advertising}
use Rattle.node_rules.specs.Hearing.{chosen, answers_at, answering}
use Rattle.node_rules.specs.Calls.{replies, replied}
use Rattle.node_rules.proofs.Pieces.{plain_whole, identified_plain}
use Rattle.node_rules.proofs.Once.{identified_length, identifying_size}
use Rattle.node.specs.Lent.{board_of}
use Rattle.node.proofs.Choosing.{chosen_none, chosen_passed, chosen_next, chosen_longer}

-- ---- marks

advertising_next : (s : Slots) (js : List ℕ) (j : ℕ) → advertising s (js ++ (j ∷ [])) ≡ advertise (advertising s js) j
advertising_next s [] j = refl
advertising_next s (i ∷ is) j = advertising_next (advertise s i) is j

-- Only marks change.
only_marks : (s : Slots) (js : List ℕ) → advertising s js ≡ with_marks s (advertising s js).marks
only_marks s [] = refl
only_marks s (i ∷ is) = only_marks (advertise s i) is

-- ---- bytes

module _ (b : Board) where
  -- Its bytes are those of a message with an event and nothing else.
  pub identified_bytes : (i mti : ℕ) → mti ≡ identified_mti (role_of b.slots i) (status_of b.slots i)
      → message_bytes (with_event mti b.node.id (event_of b.slots i)) [] ≡ whole_bytes (identified b i)
  identified_bytes i mti h =
      let id = b.node.id in
      let e = event_of b.slots i in
      ap (λ (n : ℕ). message_bytes (with_event n id e) []) h ∙ sym (plain_whole (identified_plain (role_of b.slots i) (status_of b.slots i)) id e)

  all_next : (js : List ℕ) (j : ℕ) → all_bytes (identifying b (js ++ (j ∷ []))) ≡ all_bytes (identifying b js) ++ whole_bytes (identified b j)
  all_next [] j = append-nil (whole_bytes (identified b j))
  all_next (i ∷ is) j =
      let first = whole_bytes (identified b i) in
      ap (λ (l : List ℕ). first ++ l) (all_next is j) ∙ sym (append_assoc first (all_bytes (identifying b is)) (whole_bytes (identified b j)))

-- What the replies so far leave.
pub record Replied (b : Board) (start js marks : List ℕ) (at : ℕ) (out : List ℕ) : Type 0 where
  pub marked : marks ≡ (advertising b.slots js).marks
  pub wrote : Wrote start (all_bytes (identifying b js)) at out

module _ {b : Board} {start js marks out : List ℕ} {at : ℕ} (r : Replied b start js marks at out) (j : ℕ) (room : length (js ++ (j ∷ [])) * 16 ≤ length start) where
  fits : length (all_bytes (identifying b js) ++ whole_bytes (identified b j)) ≤ length start
  fits = omega (arith, ap length (all_next b js j), identifying_size b (js ++ (j ∷ [])), room)

  replied_room : at + 16 ≤ length out
  replied_room = omega (arith, wrote_room r.wrote (whole_bytes (identified b j)) fits, identified_length b j)

  replied_more : {marked out' : List ℕ} → marked ≡ (advertise (with_marks b.slots marks) j).marks → out' ≡ pasted at (whole_bytes (identified b j)) out
      → Replied b start (js ++ (j ∷ [])) marked (at + 16) out'
  replied_more {marked} {out'} e f = record {
    marked = e ∙ ap (λ (l : List ℕ). (advertise (with_marks b.slots l) j).marks) r.marked
        ∙ ap (λ (s : Slots). (advertise s j).marks) (sym (only_marks b.slots js))
        ∙ ap (λ (s : Slots). s.marks) (sym (advertising_next b.slots js j));
    wrote = subst (λ (l : List ℕ). Wrote start l (at + 16) out') (sym (all_next b js j))
        (wrote_more r.wrote (whole_bytes (identified b j)) fits (ap (λ (n : ℕ). at + n) (sym (identified_length b j))) f);
  }

-- ---- the replies to an inquiry, slot by slot

module _ (b : Board) (q : Saying) where
  abbrev pub answers_by : ℕ → Bool
  answers_by = answers_at b.node.automatic b.slots.roles b.slots.events q

  -- The slots below a number that answer.
  abbrev pub answerers : ℕ → List ℕ
  answerers i = chosen i answers_by

  pub replied_start : (start : List ℕ) → Replied b start (answerers 0) b.slots.marks 0 start
  replied_start start = subst (λ (js : List ℕ). Replied b start js b.slots.marks 0 start) (sym (chosen_none answers_by)) (record { marked = refl; wrote = wrote_none start })

  module _ {start marks out : List ℕ} {at : ℕ} (i : ℕ) (r : Replied b start (answerers i) marks at out) where
    pub replied_passed : answers_by i ≡ false → Replied b start (answerers (i + 1)) marks at out
    replied_passed e = subst (λ (js : List ℕ). Replied b start js marks at out) (sym (chosen_passed answers_by i e)) r

    module _ (e : answers_by i ≡ true) (room : length (answering b q) * 16 ≤ length start) (below : i < count b.slots) where
      next_fits : length (answerers i ++ (i ∷ [])) * 16 ≤ length start
      unfolding answering
      next_fits = omega (arith, ap length (chosen_next answers_by i e), chosen_longer answers_by (i + 1) (count b.slots) (omega arith), room)

      pub next_room : at + 16 ≤ length out
      next_room = replied_room r i next_fits

      pub replied_next : {marked out' : List ℕ} → marked ≡ (advertise (with_marks b.slots marks) i).marks → out' ≡ pasted at (whole_bytes (identified b i)) out
          → Replied b start (answerers (i + 1)) marked (at + 16) out'
      replied_next {marked} {out'} f g = subst (λ (js : List ℕ). Replied b start js marked (at + 16) out') (sym (chosen_next answers_by i e)) (replied_more r i next_fits f g)

    pub replied_all : i ≡ count b.slots
        → (board_of b.node (with_marks b.slots marks) ≡ replied b q) × (out ≡ pasted 0 (all_bytes (replies b q)) start)
    unfolding answering
    replied_all e =
        let all : Replied b start (answerers (count b.slots)) marks at out = subst (λ (k : ℕ). Replied b start (answerers k) marks at out) e r in
        (ap (board_of b.node) (ap (with_marks b.slots) all.marked ∙ sym (only_marks b.slots (answering b q))), all.wrote.left)
