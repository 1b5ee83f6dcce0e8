-- THEOREM: what is split is joined again, from any joining state and with any frames of other senders in between.
use Prim.Native.Nat.{ℕ, suc, ◌-◌, ◌^◌, ◌<◌}
use mathlib.Core.Path.{◌≡◌, ap, ◌∙◌}
use mathlib.Core.Bool.{Bool, true, false, not}
use mathlib.Core.List.{List}
use native.Mathlib.Nat.{mod-eq_of_lt}
use native.Mathlib.Omega.{arith}
use lib.ListN.{length}
use Rattle.numbers.specs.Numbers.{number_in, bytes_of}
use Rattle.numbers.proofs.Laws.{bytes_length, number_of_bytes}
use Rattle.basics.specs.Refusals.{first_of}
use Rattle.message.specs.declared.Message.{Message}
use Rattle.message.specs.Messages.{Below}
use Rattle.can_rules.specs.declared.Frame.{Frame}
use Rattle.can_rules.specs.Aliases.{Aliases}
use Rattle.can_rules.specs.Joining.{Begun, bad_joining, of_sender, by, sender_of, Handed, join}
use Rattle.can_rules.specs.Splitting.{pieces, middles, frames_of, split_of, report_tests}
use Rattle.can_rules.specs.Runs.{from, piece_from, those, answers_to, crowded, at_last}
use Rattle.can_rules.proofs.Bounds.{Bounded, bounded, left_bounded}
use Rattle.can_rules.proofs.Apart.{every, as_alone, from_owner, from_kept, piece_owner, piece_kept}
use Rattle.can_rules.proofs.Made.{Stands, whole_taken, start_taken}
use Rattle.can_rules.proofs.Pieces.{pieces_count, pieces_taken}
use Rattle.can_rules.proofs.Reports.{handing, Reporting, splittable}
use Rattle.can_rules.proofs.Reports.Reporting.{bare, laden}

-- ---- a message's frames alone

-- An event of 64 bits is read back from its eight bytes.
event_read : (event : ℕ) → event < 2 ^ 64 → number_in (bytes_of 8 event) ≡ event
event_read event low = number_of_bytes 8 event ∙ mod-eq_of_lt low

module _ {l : Aliases} {a n : ℕ} (k : Stands l a n) (s : List Begun) (b : Bounded s) where
  report_joined : {h : Handed} → Reporting n h → Below (2 ^ 64) h.message.event
      → answers_to every l (by n s) (frames_of a h.message h.payload) ≡ at_last (length (frames_of a h.message h.payload) - 1) h
  unfolding frames_of
  report_joined (bare event) low =
      let own = left_bounded (λ c. not (of_sender n c)) s b in
      rw (whole_taken k (by n s) own (bytes_of 8 event) (rw (bytes_length 8 event)), event_read event low)
  report_joined (laden event payload some most) low =
      let start = start_taken k s b (bytes_of 8 event) (rw (bytes_length 8 event)) in
      let count : suc (length (pieces a (middles payload) payload)) - 1 ≡ suc (middles payload) = omega (arith, pieces_count a (middles payload) payload) in
      rw (start, event_read event low, pieces_taken k event payload most (middles payload) 0 (omega arith) (omega arith), count)

-- ---- among other frames

module _ (l : Aliases) (m : Message) (payload : List ℕ) (e : first_of (report_tests l m payload) ≡ 0) (low : Below (2 ^ 64) m.event) where
  -- Its frames alone, whatever its sender had begun.
  pub alone_joined : (s : List Begun) → Bounded s → answers_to every l (by m.source s) (split_of l m payload) ≡ at_last (length (split_of l m payload) - 1) (handing m payload)
  unfolding split_of
  alone_joined s b = let h = splittable l m payload e in report_joined h.stands s b h.one_of_two low

  -- Over any choice of its sender's frames that leaves out none that changes what it has begun.
  pub joined_among : (mine : Frame → Bool) → ((f : Frame) → mine f ≡ true → sender_of l f ≡ m.source)
      → ((s : List Begun) (f : Frame) → mine f ≡ false → by m.source (join l s f).next ≡ by m.source s)
      → (s : List Begun) → Bounded s → (fs : List Frame) → those mine fs ≡ split_of l m payload → crowded (answers_to mine l s fs) ≡ false
      → answers_to mine l s fs ≡ at_last (length (split_of l m payload) - 1) (handing m payload)
  joined_among mine owner kept s b fs split calm =
      as_alone l (splittable l m payload e).stands.good_list_lem m.source mine owner kept s fs b calm
      ∙ ap (answers_to every l (by m.source s)) split
      ∙ alone_joined s b

  -- ROUND TRIP. From any joining state, whatever its sender had begun, and with any frames of other senders in between: where none of a message's frames is
  -- refused with 20, they give nothing until the last, and then the same message with its payload.
  pub round_trip : (s : List Begun) (fs : List Frame) → bad_joining s ≡ false → those (from l m.source) fs ≡ split_of l m payload
      → crowded (answers_to (from l m.source) l s fs) ≡ false
      → answers_to (from l m.source) l s fs ≡ at_last (length (split_of l m payload) - 1) (handing m payload)
  round_trip s fs ok split calm =
      joined_among (from l m.source) (from_owner l m.source) (from_kept l m.source) s (bounded s ok) fs split calm

  -- The same among the sender's own 05B4 frames and its frames with other headers too.
  pub round_trip_among : (s : List Begun) (fs : List Frame) → bad_joining s ≡ false → those (piece_from l m.source) fs ≡ split_of l m payload
      → crowded (answers_to (piece_from l m.source) l s fs) ≡ false
      → answers_to (piece_from l m.source) l s fs ≡ at_last (length (split_of l m payload) - 1) (handing m payload)
  round_trip_among s fs ok split calm =
      joined_among (piece_from l m.source) (piece_owner l m.source) (piece_kept l m.source) s (bounded s ok) fs split calm
