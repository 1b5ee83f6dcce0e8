-- What a step leaves, from what joining, writing and splitting promise.
use Prim.Native.Nat.{ℕ, zero, suc, ◌+◌, ◌-◌, ◌≤◌}
use mathlib.Core.Path.{◌≡◌, refl, sym, subst, ap, ◌∙◌}
use mathlib.Core.Bool.{Bool, cond}
use mathlib.Core.List.{List, [], ◌∷◌, ◌++◌}
use native.Mathlib.Omega.{arith}
use borrow.Author.Tests.{ne_eqb}
use Rattle.std.specs.Prelude.{Result, Ok, Err, IsOk}
use lib.Dec.{ltb}
use lib.ListN.{length, get_or, take, drop, replicate, length-append, length-replicate, length-take, length-drop}
use lib.Seq.{take-append-le, take-append_seam}
use Rattle.numbers.specs.Numbers.{number_at}
use Rattle.basics.specs.Lists.{first_or}
use Rattle.basics.specs.declared.Refusal.{Refusal}
use Rattle.basics.specs.Refusals.{Told, told, refused, refuse, first_of, answered, in_numbers, told_of}
use Rattle.basics.proofs.Numbers.{told_of_once}
use Rattle.message.specs.declared.Message.{Message}
use Rattle.message.specs.Messages.{message_bytes}
use Rattle.message.specs.Writing.{write_told, write_of, overwritten, out_after}
use Rattle.message.proofs.Tellings.{write_told_lem}
use Rattle.message.proofs.Writings.{write_done}
use Rattle.message.proofs.Exactly.{accepted_leaves}
use Rattle.can_rules.specs.declared.Frame.{Frame}
use Rattle.can_rules.specs.Frames.{frame_at, all_bytes}
use Rattle.can_rules.specs.Aliases.{Aliases}
use Rattle.can_rules.specs.Joining.{Begun, Handed, report, Outcome, join}
use Rattle.can_rules.specs.Splitting.{split_of, report_tests, split_tests, split_told, out_after_split}
use Rattle.can_rules.proofs.Exactly.{refused_silent}
use Rattle.can_rules.proofs.Reports.Reporting.{bare, laden}
use Rattle.can.specs.declared.Joined.{Joined}
use Rattle.can.specs.declared.Joining.{Joining}
use Rattle.can.specs.States.{state_of, handed_in, silence, Seen, seen_in, seen_of}
use Rattle.framing.specs.Files.{message_at, content_length, content_at, room_at}
use Rattle.framing.specs.Shown.{Shown, handed_bytes, shown_join, shown_split, shown_at}
use Rattle.framing.specs.Steps.{Writable, StepLeft, written_of}
use Rattle.framing.proofs.Handing.{reporting_writable, Hands, join_hands}
use Rattle.framing.proofs.Handing.Hands.{nothing, first}
use Rattle.framing.proofs.Sizes.{report_length}

-- ---- bytes at an output's start

start_bytes : (bytes out rest : List ℕ) {n : ℕ} {out' : List ℕ} → n ≡ length bytes → out' ≡ overwritten out bytes → take n (out' ++ rest) ≡ bytes
start_bytes bytes out rest {n} {out'} e f =
    let more = drop (length bytes) out in
    let inside : length bytes ≤ length (bytes ++ more) = omega (arith, length-append bytes more) in
    (λ i. take (e i) (f i ++ rest)) ∙ take-append-le (length bytes) (bytes ++ more) rest inside ∙ take-append_seam bytes more

-- ---- a report that is handed out

module _ (mti n event : ℕ) (payload out : List ℕ) (h : Writable (report mti n event payload)) (room : length out ≡ 512) where
  message : Message
  message = (report mti n event payload).message

  bytes : List ℕ
  bytes = message_bytes message payload

  module _ {body : List ℕ} (same : body ≡ payload) (r : Result ℕ Refusal) (e : told_of (in_numbers r) ≡ write_told (report mti n event payload).message body out) where
    answer : in_numbers r ≡ Ok (length bytes)
    unfolding bytes message
    answer =
        let fits : length bytes ≤ length out = omega (arith, report_length mti n event payload, h.few, room) in
        let tells = e ∙ ap (λ (x : List ℕ). write_told message x out) same ∙ sym (write_told_lem message payload out) in
        told_of_once (in_numbers r) (write_of message payload out) tells ∙ sym (write_done message payload out h.free h.good fits).0

    pub handed_accepted : IsOk r
    handed_accepted = go r answer
      where
        go : (x : Result ℕ Refusal) → in_numbers x ≡ Ok (length bytes) → IsOk x
        go (Ok k) a = refl
        go (Err k) a = cc

    pub handed_written : {k : ℕ} {out' : List ℕ} → (mti ≡ 0 → ⊥) → r ≡ Ok k → out' ≡ out_after (report mti n event payload).message body out
        → (k ≤ 512) × (take k out' ≡ written_of (report mti n event payload))
    unfolding bytes message
    handed_written {k} other g f =
        let one : Ok k ≡ Ok (length bytes) = sym (ap in_numbers g) ∙ answer in
        let size : k ≡ length bytes = cc in
        let fits : length bytes ≤ length out = omega (arith, report_length mti n event payload, h.few, room) in
        let accepted = sym (write_done message payload out h.free h.good fits).0 in
        let left = f ∙ ap (λ (x : List ℕ). out_after message x out) same ∙ accepted_leaves message payload out (length bytes) accepted in (
          omega (arith, size, report_length mti n event payload, h.few),
          (λ i. take (size i) (left i)) ∙ take-append_seam bytes (drop (length bytes) out) ∙ sym (ap (λ (t : Bool). cond t [] bytes) (ne_eqb mti 0 other)),
        )

-- What the code sees of a join: a report that can be written, and its bytes.
writable_first : (hs : List Handed) → Hands hs → ((first_or silence (λ h. h) hs).message.mti ≡ 0 → ⊥) → Writable (first_or silence (λ h. h) hs)
writable_first _ nothing other = absurd (other refl)
writable_first _ (first good r) other = reporting_writable good r

bytes_first : (hs : List Handed) → Hands hs → written_of (first_or silence (λ h. h) hs) ≡ handed_bytes hs
bytes_first _ nothing = refl
bytes_first _ (first good (bare event)) = refl
bytes_first _ (first good (laden event payload some most)) = refl

module _ (o : Outcome) (hands : Hands o.handed) (r : Joined) (e : seen_in r ≡ seen_of o) where
  seen_writable : (r.mti ≡ 0 → ⊥) → Writable (handed_in r.mti r.message)
  seen_writable = subst (λ (s : Seen). (s.handed.message.mti ≡ 0 → ⊥) → Writable s.handed) (sym e) (writable_first o.handed hands)

  join_left : {n : ℕ} {out : List ℕ} → r.refusal ≡ 0 → (n ≤ 512) × (take n out ≡ written_of (handed_in r.mti r.message))
      → StepLeft (shown_join o) (Ok n) (state_of r.state) out
  join_left accepted w = record {
    refusal = sym accepted ∙ ap (λ (s : Seen). s.refusal) e;
    next = ap (λ (s : Seen). s.next) e;
    few = w.0;
    bytes = w.1 ∙ ap (λ (s : Seen). written_of s.handed) e ∙ bytes_first o.handed hands;
  }

-- The same of a frame that stands in a file.
pub frame_eight : (s : List ℕ) (at : ℕ) → at + 13 ≤ length s → length (frame_at s at).bytes ≡ 8
unfolding frame_at
frame_eight s at h = omega (arith, length-take 8 (drop (at + 5) s), length-drop (at + 5) s)

module _ (l : Aliases) (b : List Begun) (s : List ℕ) (at : ℕ) (fits : at + 13 ≤ length s) {f : Frame} (g : f ≡ frame_at s at) (r : Joined) (e : seen_in r ≡ seen_of (join l b f)) where
  hands : Hands (join l b (frame_at s at)).handed
  hands = join_hands l b (frame_at s at) (frame_eight s at fits)

  seen : seen_in r ≡ seen_of (join l b (frame_at s at))
  seen = e ∙ ap (λ (x : Frame). seen_of (join l b x)) g

  pub frame_writable : (r.mti ≡ 0 → ⊥) → Writable (handed_in r.mti r.message)
  frame_writable = seen_writable (join l b (frame_at s at)) hands r seen

  pub frame_left : {n : ℕ} {out : List ℕ} → r.refusal ≡ 0 → (n ≤ 512) × (take n out ≡ written_of (handed_in r.mti r.message))
      → StepLeft (shown_join (join l b (frame_at s at))) (Ok n) (state_of r.state) out
  frame_left = join_left (join l b (frame_at s at)) hands r seen

  -- A frame that is refused hands nothing out.
  pub frame_refused : (out : List ℕ) → (r.refusal ≡ 0 → ⊥) → StepLeft (shown_join (join l b (frame_at s at))) (Err r.refusal) (state_of r.state) out
  frame_refused out other =
      let same : r.refusal ≡ (join l b (frame_at s at)).refusal = ap (λ (x : Seen). x.refusal) seen in
      let silent = refused_silent l b (frame_at s at) (λ none. other (same ∙ none)) in
      record { refusal = same; next = ap (λ (x : Seen). x.next) seen; few = omega arith; bytes = sym (ap handed_bytes silent) }

-- ---- a split

-- What a split answers is by its output's length.
module _ (l : Aliases) (m : Message) (content part : List ℕ) (room : ℕ) (size : length part ≡ room) where
  same_tests : first_of (split_tests l m content part) ≡ first_of (split_tests l m content (replicate room 0))
  same_tests =
      ap (λ (n : ℕ). first_of (report_tests l m content ++ (refuse 6 (ltb n (length (all_bytes (split_of l m content)))) ∷ []))) (size ∙ sym (length-replicate room 0))

module _ (bytes part rest : List ℕ) (j : Joining) (small : length part ≤ 512) where
  -- By the refusal's number, and what is told of it.
  left_by_lem : (k : ℕ) (w : Result ℕ ℕ) (part' : List ℕ) → told_of w ≡ answered (λ n. told (n ∷ [])) (λ n. refused n []) k (length bytes)
      → part' ≡ answered (overwritten part) (λ _. part) k bytes → length part' ≡ length part
      → StepLeft (record { refusal = k; bytes = answered (λ b. b) (λ _. []) k bytes; next = state_of j }) w (state_of j) (part' ++ rest)
  left_by_lem zero (Ok n) part' e f kept =
      let size : n ≡ length bytes = ap (λ (t : Told (List ℕ)). first_or 0 (λ x. x) t.value) e in
      let inside : length bytes ≤ 512 = omega (arith, ap length f, length-append bytes (drop (length bytes) part), kept, small) in
      record { refusal = refl; next = refl; few = omega (arith, size, inside); bytes = start_bytes bytes part rest size f }
  left_by_lem zero (Err n) part' e f kept = let none = ap (λ (t : Told (List ℕ)). length t.value) e in absurd (omega (arith, none))
  left_by_lem (suc k) (Ok n) part' e f kept = let none = ap (λ (t : Told (List ℕ)). length t.value) e in absurd (omega (arith, none))
  left_by_lem (suc k) (Err n) part' e f kept =
      record { refusal = ap (λ (t : Told (List ℕ)). t.refusal) e; next = refl; few = omega arith; bytes = refl }

split_left : (l : Aliases) (m : Message) (content part part' rest : List ℕ) (room : ℕ) (w : Result ℕ ℕ) (j : Joining) → length part ≡ room → room ≤ 512
    → told_of w ≡ split_told l m content part → part' ≡ out_after_split l m content part → length part' ≡ length part
    → StepLeft (shown_split l (state_of j) m content room) w (state_of j) (part' ++ rest)
unfolding shown_split split_told out_after_split
split_left l m content part part' rest room w j size few e f kept =
    let bytes = all_bytes (split_of l m content) in
    let k = first_of (split_tests l m content (replicate room 0)) in
    let same = same_tests l m content part room size in
    left_by_lem bytes part rest j (omega (arith, size, few)) k w part'
    (e ∙ ap (λ (n : ℕ). answered (λ x. told (x ∷ [])) (λ x. refused x []) n (length bytes)) same)
    (f ∙ ap (λ (n : ℕ). answered (overwritten part) (λ _. part) n bytes) same)
    kept

-- The content and the room of a split, from the place of its content to its end.
module _ (s : List ℕ) (at : ℕ) {n : ℕ} (e : n ≡ content_length s at) where
  pub content_read : take (at + 31 + n - (at + 31)) (drop (at + 31) s) ≡ content_at s at
  content_read =
      let width : at + 31 + n - (at + 31) ≡ n = omega arith in
      ap (λ (k : ℕ). take k (drop (at + 31) s)) (width ∙ e)

  pub room_read : {room : ℕ} → room ≡ number_at s (at + 31 + n) 2 → room ≡ room_at s at
  room_read f = f ∙ ap (λ (k : ℕ). number_at s (at + 31 + k) 2) e

-- ---- the step at a place

module _ (l : Aliases) (s : List ℕ) (at : ℕ) (j : Joining) where
  pub split_at_left : (part rest : List ℕ) {m : Message} {content part' : List ℕ} {room : ℕ} {v w : Result ℕ ℕ}
      → m ≡ message_at s at → content ≡ content_at s at → room ≡ room_at s at → length part ≡ room → room ≤ 512
      → v ≡ w → told_of v ≡ split_told l m content part → part' ≡ out_after_split l m content part → length part' ≡ length part
      → StepLeft (shown_split l (state_of j) (message_at s at) (content_at s at) (room_at s at)) w (state_of j) (part' ++ rest)
  split_at_left part rest {m} {content} {part'} {room} {w = w} a b c size few g e f kept =
      subst (λ (x : Shown). StepLeft x w (state_of j) (part' ++ rest)) (λ i. shown_split l (state_of j) (a i) (b i) (c i))
      (split_left l m content part part' rest room w j size few (ap told_of (sym g) ∙ e) f kept)

module _ (l : Aliases) (b : List Begun) (s : List ℕ) (at : ℕ) {done : Result ℕ ℕ} {next : List Begun} {out : List ℕ} where
  pub step_join : get_or s at 0 ≡ 1 → StepLeft (shown_join (join l b (frame_at s (at + 1)))) done next out → StepLeft (shown_at l b s at) done next out
  unfolding shown_at
  step_join e left = rw e left

  pub step_split : get_or s at 0 ≡ 2 → StepLeft (shown_split l b (message_at s at) (content_at s at) (room_at s at)) done next out → StepLeft (shown_at l b s at) done next out
  unfolding shown_at
  step_split e left = rw e left
