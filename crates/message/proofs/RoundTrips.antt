-- M3: bytes that are read are written back to the same bytes, and a message that is written is read back with its content.
use Prim.Native.Nat.{ℕ, ◌+◌, ◌^◌, ◌≤◌, ◌<◌}
use mathlib.Core.Path.{◌≡◌, refl, sym, ap, ap₂, ◌∙◌}
use mathlib.Core.Bool.{Bool, true, false, cond, true≢false}
use mathlib.Core.List.{List, ◌++◌}
use native.Mathlib.Nat.{mod-eq_of_lt}
use native.Mathlib.Omega.{arith}
use lib.ListN.{length, take, drop, take-append-drop, length-drop}
use lib.Seq.{length-take-le, take_at, drop_at, drop-drop}
use Rattle.std.specs.Prelude.{Option, Some, None as Missing, Ok}
use Rattle.numbers.specs.Numbers.{number_in, bytes_of, Bytes, number_at}
use Rattle.numbers.proofs.Laws.{bytes_length, part_bytes, bytes_of_number, number_of_bytes}
use Rattle.message.specs.declared.Message.{Message}
use Rattle.message.specs.Mti.{addressed, carries_event, event_at, content_at, barred}
use Rattle.message.specs.Messages.{field_bytes, Below, message_bytes, misplaced, bad_node, bad_where_present, bad_nodes, bad_content, other_source, content_tests}
use Rattle.basics.specs.Refusals.{None}
use Rattle.basics.specs.Refusals.None.{none, passed}
use Rattle.message.specs.Reading.{field_at, fields_in, mti_in, message_in, content_in, read_tests, read_of}
use Rattle.message.specs.Writing.{write_of, out_after}
use Rattle.message.proofs.Exactly.{read_accepted, write_accepted, accepted_leaves}
use Rattle.basics.proofs.Firsts.{first_none, first_passed, rest_passed}
use Rattle.numbers.proofs.Pasting.{pasted_first}
use borrow.Author.Tests.{ltb-false, le-ltb, leb-false}
use lib.Dec.{eqb, leb, ltb}
use Rattle.message.proofs.Laws.{Placed}
use Rattle.basics.proofs.Bools.{neither}
use Rattle.message.proofs.Writings.{field_length, message_length_lem, content_placed, write_done}

-- ---- read, then written

-- A piece that is read and written back is the piece.
piece_back : (s : List ℕ) (at w : ℕ) → Bytes s → at + w ≤ length s → bytes_of w (number_at s at w) ≡ take w (drop at s)
piece_back s at w h g =
    let rest = length-drop at s in
    let size : length (take w (drop at s)) ≡ w = length-take-le w (drop at s) (omega arith) in
    ap (λ (n : ℕ). bytes_of n (number_at s at w)) (sym size) ∙ bytes_of_number (take w (drop at s)) (part_bytes s at w h)

field_back : (flag : Bool) (s : List ℕ) (at w : ℕ) → Bytes s → at + cond flag w 0 ≤ length s → field_bytes w (field_at flag s at w) ≡ take (cond flag w 0) (drop at s)
field_back true s at w h g = piece_back s at w h g
field_back false s at w h g = refl

-- A piece and what follows it.
piece_then : (s : List ℕ) (at w : ℕ) → take w (drop at s) ++ drop (at + w) s ≡ drop at s
piece_then s at w = ap (λ (l : List ℕ). take w (drop at s) ++ l) (sym (drop-drop w at s)) ∙ take-append-drop w (drop at s)

pub bytes_back : (s : List ℕ) → Bytes s → content_at (mti_in s) ≤ length s → message_bytes (message_in s) (content_in s) ≡ s
unfolding fields_in
bytes_back s h g =
    let m = mti_in s in
    let d : ℕ = cond (addressed m) 6 0 in
    let e : ℕ = cond (carries_event m) 8 0 in
    let event = field_back (carries_event m) s (event_at m) 8 h g in
    let destination = field_back (addressed m) s 8 6 h (omega arith) in
    ap (λ (l : List ℕ). bytes_of 2 m ++ (bytes_of 6 (number_at s 2 6) ++ (field_bytes 6 (field_at (addressed m) s 8 6) ++ l)))
    (ap (λ (l : List ℕ). l ++ drop (content_at m) s) event ∙ piece_then s (event_at m) e)
    ∙ ap (λ (l : List ℕ). bytes_of 2 m ++ (bytes_of 6 (number_at s 2 6) ++ l)) (ap (λ (l : List ℕ). l ++ drop (event_at m) s) destination ∙ piece_then s 8 d)
    ∙ ap (λ (l : List ℕ). bytes_of 2 m ++ l) (ap (λ (l : List ℕ). l ++ drop 8 s) (piece_back s 2 6 h (omega arith)) ∙ piece_then s 2 6)
    ∙ ap (λ (l : List ℕ). l ++ drop 2 s) (piece_back s 0 2 h (omega arith))
    ∙ piece_then s 0 2

-- ---- written, then read

-- What stands at a place, where a piece and its rest do.
piece_at : (s xs ys : List ℕ) (at w : ℕ) → drop at s ≡ xs ++ ys → length xs ≡ w → take w (drop at s) ≡ xs
piece_at s xs ys at w e n = ap (take w) e ∙ take_at xs ys w n

rest_at : (s xs ys : List ℕ) (at w : ℕ) → drop at s ≡ xs ++ ys → length xs ≡ w → drop (at + w) s ≡ ys
rest_at s xs ys at w e n = sym (drop-drop w at s) ∙ ap (drop w) e ∙ drop_at xs ys w n

number_at_lem : (s ys : List ℕ) (at w x : ℕ) → drop at s ≡ bytes_of w x ++ ys → x < 256 ^ w → number_at s at w ≡ x
number_at_lem s ys at w x e h = ap number_in (piece_at s (bytes_of w x) ys at w e (bytes_length w x)) ∙ number_of_bytes w x ∙ mod-eq_of_lt h

-- A field that is where its flag says is read back.
field_at_lem : (flag : Bool) (f : Option ℕ) (s ys : List ℕ) (at w : ℕ) → misplaced flag f ≡ false → Below (256 ^ w) f → drop at s ≡ field_bytes w f ++ ys → field_at flag s at w ≡ f
field_at_lem true (Some x) s ys at w p h e = ap Some (number_at_lem s ys at w x e h)
field_at_lem false (Some x) s ys at w p h e = absurd (true≢false p)
field_at_lem true Missing s ys at w p h e = absurd (true≢false p)
field_at_lem false Missing s ys at w p h e = refl

-- A message whose fields fit their widths and stand where its MTI flags them.
pub record Fitting (m : Message) : Type 0 where
  pub mti : m.mti < 2 ^ 16
  pub source : m.source < 2 ^ 48
  pub destination : Below (2 ^ 48) m.destination
  pub event : Below (2 ^ 64) m.event
  pub placed : Placed m

module _ (m : Message) (c : List ℕ) (f : Fitting m) where
  abbrev sent : List ℕ
  sent = message_bytes m c

  at_source : drop (0 + 2) sent ≡ bytes_of 6 m.source ++ (field_bytes 6 m.destination ++ (field_bytes 8 m.event ++ c))
  at_source = rest_at sent (bytes_of 2 m.mti) _ 0 2 refl (bytes_length 2 m.mti)

  at_destination : drop (2 + 6) sent ≡ field_bytes 6 m.destination ++ (field_bytes 8 m.event ++ c)
  at_destination = rest_at sent (bytes_of 6 m.source) _ 2 6 at_source (bytes_length 6 m.source)

  at_event : drop (event_at m.mti) sent ≡ field_bytes 8 m.event ++ c
  at_event = rest_at sent (field_bytes 6 m.destination) _ 8 (cond (addressed m.mti) 6 0) at_destination (field_length 6 (addressed m.mti) m.destination f.placed.destination)

  at_content : drop (content_at m.mti) sent ≡ c
  at_content = rest_at sent (field_bytes 8 m.event) c (event_at m.mti) (cond (carries_event m.mti) 8 0) at_event (field_length 8 (carries_event m.mti) m.event f.placed.event)

  mti_back : mti_in sent ≡ m.mti
  mti_back = number_at_lem sent _ 0 2 m.mti refl f.mti

  pub message_back : message_in (message_bytes m c) ≡ m
  unfolding fields_in
  message_back =
      ap (λ (k : ℕ). fields_in k sent) mti_back
      ∙ (λ i. record {
        mti = m.mti;
        source = number_at_lem sent _ 2 6 m.source at_source f.source i;
        destination = field_at_lem (addressed m.mti) m.destination sent _ 8 6 f.placed.destination f.destination at_destination i;
        event = field_at_lem (carries_event m.mti) m.event sent _ (event_at m.mti) 8 f.placed.event f.event at_event i;
      })

  pub content_back : content_in (message_bytes m c) ≡ c
  content_back = ap (λ (k : ℕ). drop (content_at k) sent) mti_back ∙ at_content

-- ---- both ways

-- Bytes that are read are written back to the same bytes, and nothing else of the output changes.
pub read_then_write : (s : List ℕ) → Bytes s → (m : Message) → read_of s ≡ Ok m → (out : List ℕ) → length s ≤ length out
    → (write_of m (content_in s) out ≡ Ok (length s)) × (out_after m (content_in s) out ≡ s ++ drop (length s) out)
unfolding fields_in
read_then_write s h m e out room =
    let accepted = (read_accepted s m).0 e in
    let free = rest_passed accepted.0 in
    let held = rest_passed free in
    let x = message_in s in
    let c = content_in s in
    let back : message_bytes x c ≡ s = bytes_back s h (ltb-false (length s) (content_at (mti_in s)) (first_passed held)) in
    let fits : length (message_bytes x c) ≤ length out = rw back room in
    let done = write_done x c out (first_passed free) ((first_none (content_tests x c) refl).1 (rest_passed held)) fits in
    rw accepted.1 (
      sym done.0 ∙ ap (λ (l : List ℕ). Ok (length l)) back,
      sym done.1 ∙ pasted_first (message_bytes x c) out ∙ ap (λ (l : List ℕ). l ++ drop (length l) out) back,
    )

node_below : (n : ℕ) → bad_node n ≡ false → n < 2 ^ 48
node_below n e = leb-false (2 ^ 48) n (neither (eqb n 0) (leb (2 ^ 48) n) e).1

destination_below : (f : Option ℕ) → bad_where_present f ≡ false → Below (2 ^ 48) f
destination_below (Some n) e = node_below n e
destination_below Missing e = tt

-- A message that is written is read back as the same message with the same content.
pub write_then_read : (m : Message) (c out : List ℕ) (n : ℕ) → m.mti < 2 ^ 16 → Below (2 ^ 64) m.event → write_of m c out ≡ Ok n
    → (read_of (take n (out_after m c out)) ≡ Ok m) × (content_in (take n (out_after m c out)) ≡ c)
unfolding bad_nodes
write_then_read m c out n hm he e =
    let accepted = (write_accepted m c out n).0 e in
    let free = accepted.0 in
    let tests = rest_passed free in
    let nodes = neither (bad_node m.source) (bad_where_present m.destination) (first_passed tests) in
    let placed = content_placed m c (first_passed (rest_passed tests)) in
    let f : Fitting m = record {
      mti = hm;
      source = node_below m.source nodes.0;
      destination = destination_below m.destination nodes.1;
      event = he;
      placed = placed;
    } in
    let s = message_bytes m c in
    let size : length s ≡ content_at m.mti + length c = message_length_lem m c placed in
    let whole : take n (out_after m c out) ≡ s
    = ap₂ take accepted.1 (accepted_leaves m c out n e) ∙ take_at s (drop (length s) out) (length s) refl in
    let message : message_in s ≡ m = message_back m c f in
    let content : content_in s ≡ c = content_back m c f in
    let mti : mti_in s ≡ m.mti = mti_back m c f in
    let passes : None (read_tests s)
    = passed (le-ltb (length s) 2 (omega arith))
    (passed (ap barred mti ∙ first_passed free)
    (passed (ap (λ (k : ℕ). ltb (length s) (content_at k)) mti ∙ le-ltb (length s) (content_at m.mti) (omega arith))
    (passed (ap bad_nodes message ∙ first_passed tests)
    (passed (ap₂ bad_content message content ∙ first_passed (rest_passed tests))
    (passed (ap₂ other_source message content ∙ first_passed (rest_passed (rest_passed tests))) none))))) in
    rw whole ((read_accepted s m).1 (passes, sym message), content)
