-- The frames of a payload: the next one, and what is still to do after it.
use Prim.Native.Nat.{ℕ, zero, suc, ◌+◌, ◌-◌, ◌*◌, ◌%◌, ◌^◌, ◌≤◌, ◌<◌}
use mathlib.Core.Path.{◌≡◌, sym, ap, ap₂, subst, ◌∙◌}
use mathlib.Core.List.{List, [], ◌∷◌, ◌++◌, append-nil}
use native.Mathlib.Omega.{arith}
use lib.ListN.{length, take, drop, replicate, length-append, length-replicate, length-take, length-drop}
use lib.Seq.{length-take-le, take_all, drop-drop}
use Rattle.numbers.specs.Numbers.{number_in, bytes_of, number_at, Bytes, at_most_eight, pasted}
use Rattle.numbers.proofs.Laws.{bytes_length, bytes_of_number, part_bytes, at_most_eight_narrow}
use Rattle.numbers.proofs.Pasting.{pasted_next}
use Rattle.can_rules.specs.declared.Part.{Part}
use Rattle.can_rules.specs.declared.Part.TheVariants.{Middle, Last}
use Rattle.can_rules.specs.Frames.{header_of, frame, frame_bytes, all_bytes}
use Rattle.can_rules.specs.Splitting.{pieces, middles}
use Rattle.can.specs.Splits.{to_do, room_for}
use Rattle.can.proofs.Written.{spelled_out, frame_of_eight, frame_of_few}

-- ---- how long frames are

pub frame_length : (part : Part) (alias : ℕ) (bytes : List ℕ) → length bytes ≤ 8 → length (frame_bytes (frame part alias bytes)) ≡ 13
unfolding frame
frame_length part alias bytes h =
    let header = bytes_of 4 (header_of part alias) in
    let rest = (length bytes ∷ []) ++ (bytes ++ replicate (8 - length bytes) 0) in
    omega (arith, length-append header rest, bytes_length 4 (header_of part alias), length-append bytes (replicate (8 - length bytes) 0), length-replicate {A = ℕ} (8 - length bytes) 0)

pieces_length : (alias k : ℕ) (bytes : List ℕ) → length bytes ≤ 8 * k + 8 → length (all_bytes (pieces alias k bytes)) ≡ 13 + 13 * k
unfolding all_bytes pieces
pieces_length alias zero bytes h =
    length-append (frame_bytes (frame Last alias bytes)) [] ∙ omega (arith, frame_length Last alias bytes (omega arith))
pieces_length alias (suc k) bytes h =
    let size = length-drop 8 bytes in
    let first = frame_bytes (frame Middle alias (take 8 bytes)) in
    length-append first (all_bytes (pieces alias k (drop 8 bytes)))
    ∙ omega (arith, frame_length Middle alias (take 8 bytes) (simp length-take (omega arith)), pieces_length alias k (drop 8 bytes) (omega arith))

pub to_do_length : (alias : ℕ) (bytes : List ℕ) → length (to_do alias bytes) ≡ room_for bytes
to_do_length alias bytes = pieces_length alias (middles bytes) bytes (omega arith)

-- ---- the next frame

middle_first : (alias : ℕ) (bytes : List ℕ) → 8 < length bytes → to_do alias bytes ≡ frame_bytes (frame Middle alias (take 8 bytes)) ++ to_do alias (drop 8 bytes)
unfolding pieces all_bytes
middle_first alias bytes h =
    let rest = length-drop 8 bytes in
    let more : middles bytes ≡ suc (middles (drop 8 bytes)) = omega arith in
    ap (λ (k : ℕ). all_bytes (pieces alias k bytes)) more

last_only : (alias : ℕ) (bytes : List ℕ) → length bytes ≤ 8 → to_do alias bytes ≡ frame_bytes (frame Last alias bytes)
unfolding pieces all_bytes
last_only alias bytes h =
    let none : middles bytes ≡ zero = omega arith in
    ap (λ (k : ℕ). all_bytes (pieces alias k bytes)) none ∙ append-nil (frame_bytes (frame Last alias bytes))

-- ---- as the code writes them

pub room_left : (i n : ℕ) (payload : List ℕ) → i ≤ middles payload → 13 + room_for payload ≤ n → 13 * (i + 1) + room_for (drop (8 * i) payload) ≤ n
room_left i n payload h room = omega (arith, length-drop (8 * i) payload)

module _ (alias from at : ℕ) (payload out goal : List ℕ) (bytes : Bytes payload) (room : at + room_for (drop from payload) ≤ length out)
    (so : pasted at (to_do alias (drop from payload)) out ≡ goal) where
  size : length (drop from payload) ≡ length payload - from
  size = length-drop from payload

  module _ (more : 8 < length payload - from) where
    -- Once a middle frame stands there, the rest behind it makes up the same whole.
    pub middle_written : (place later : ℕ) → place ≡ at + 13 → later ≡ from + 8 → (after : List ℕ) (number : ℕ) → number ≡ number_at payload from 8
        → after ≡ pasted at (spelled_out (header_of Middle alias) 8 number) out → pasted place (to_do alias (drop later payload)) after ≡ goal
    middle_written place later p d after number e w =
        let eight : length (take 8 (drop from payload)) ≡ 8 = length-take-le 8 (drop from payload) (omega (arith, size)) in
        let own : bytes_of 8 number ≡ take 8 (drop from payload)
        = ap₂ bytes_of (sym eight) e ∙ bytes_of_number (take 8 (drop from payload)) (part_bytes payload from 8 bytes) in
        let frame₁ = frame_bytes (frame Middle alias (take 8 (drop from payload))) in
        let written : after ≡ pasted at frame₁ out
        = w ∙ ap (λ (l : List ℕ). pasted at l out) (frame_of_eight Middle alias number ∙ ap (λ (l : List ℕ). frame_bytes (frame Middle alias l)) own) in
        let thirteen : length frame₁ ≡ 13 = frame_length Middle alias (take 8 (drop from payload)) (omega (arith, eight)) in
        ap₂ (λ (k n : ℕ). pasted k (to_do alias (drop n payload)) after) p d
        ∙ ap₂ (λ (o l : List ℕ). pasted (at + 13) (to_do alias l) o) written (sym (drop-drop 8 from payload))
        ∙ ap (λ (k : ℕ). pasted (at + k) (to_do alias (drop 8 (drop from payload))) (pasted at frame₁ out)) (sym thirteen)
        ∙ pasted_next at frame₁ (to_do alias (drop 8 (drop from payload))) out (omega (arith, thirteen))
        ∙ ap (λ (l : List ℕ). pasted at l out) (sym (middle_first alias (drop from payload) (omega (arith, size))))
        ∙ so

  -- With the last frame the whole is there.
  pub last_written : (left number moved : ℕ) (after : List ℕ) → left ≡ length payload - from → left ≤ 8 → number ≡ number_at payload from (at_most_eight left)
      → after ≡ pasted at (spelled_out (header_of Last alias) left moved) out → moved ≡ number * 2 ^ (64 - 8 * left) % 2 ^ 64 → after ≡ goal
  last_written left number moved after e few n w up =
      let all : take left (drop from payload) ≡ drop from payload = take_all left (drop from payload) (omega (arith, size)) in
      let own : number ≡ number_at payload from left = n ∙ ap (number_at payload from) (at_most_eight_narrow left few) in
      let bytes₁ : Bytes (drop from payload) = subst Bytes all (part_bytes payload from left bytes) in
      let number₁ = own ∙ ap (λ (l : List ℕ). number_in l) all in
      w
      ∙ ap (λ (x : ℕ). pasted at (spelled_out (header_of Last alias) left x) out) (up ∙ ap (λ (x : ℕ). x * 2 ^ (64 - 8 * left) % 2 ^ 64) number₁)
      ∙ ap (λ (l : List ℕ). pasted at l out) (frame_of_few Last alias left (drop from payload) bytes₁ (omega (arith, size)) few ∙ sym (last_only alias (drop from payload) (omega (arith, size))))
      ∙ so
