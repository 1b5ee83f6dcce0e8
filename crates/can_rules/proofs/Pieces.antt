-- The frames after a start: their headers and lengths, what they give after their start and what without it.
use Prim.Native.Nat.{ℕ, zero, suc, ◌+◌, ◌-◌, ◌*◌, ◌≤◌, ◌<◌}
use mathlib.Core.Path.{◌≡◌, refl, sym, ap, ap₂, ◌∙◌}
use mathlib.Core.Bool.{false}
use mathlib.Core.List.{List, [], ◌∷◌, ◌++◌, map}
use native.Mathlib.Omega.{arith}
use borrow.Author.Tests.{ne_eqb, le-ltb}
use lib.ListN.{length, take, drop, replicate, length-append, length-drop, length-replicate, length-map, take-append-drop}
use lib.Seq.{length-take-le, take-add, drop-drop}
use Rattle.basics.specs.Lists.{any}
use Rattle.can_rules.specs.declared.Part.TheVariants.{Middle, Last}
use Rattle.can_rules.specs.Frames.{header_of, part_of, frame}
use Rattle.can_rules.specs.Aliases.{Aliases, highest_alias}
use Rattle.can_rules.specs.Joining.{begun, most_payload, starts, wrong_length, report, Outcome}
use Rattle.can_rules.specs.Splitting.{pieces}
use Rattle.can_rules.specs.Runs.{Answer, answer, answer_in, answers_to, at_last}
use Rattle.can_rules.proofs.Apart.{every}
use Rattle.can_rules.proofs.Made.{Stands, part_of_made, middle_taken, last_taken, unheld_refused}

-- ---- lengths that are not refused with 19

middle_length : (bytes : List ℕ) → 8 < length bytes → wrong_length Middle (length (take 8 bytes)) ≡ false
middle_length bytes more = rw (length-take-le 8 bytes (omega arith))

last_length : (bytes : List ℕ) → 0 < length bytes → length bytes ≤ 8 → wrong_length Last (length bytes) ≡ false
last_length bytes some most = rw (ne_eqb (length bytes) 0 (λ z. omega arith), le-ltb 8 (length bytes) most)

-- ---- headers and lengths

pub pieces_headers : (a j : ℕ) (bytes : List ℕ) → map (λ f. f.header) (pieces a j bytes) ≡ replicate j (header_of Middle a) ++ (header_of Last a ∷ [])
unfolding pieces frame
pieces_headers a zero bytes = refl
pieces_headers a (suc j) bytes = ap (λ (hs : List ℕ). header_of Middle a ∷ hs) (pieces_headers a j (drop 8 bytes))

-- One more than there are middles.
pub pieces_count : (a j : ℕ) (bytes : List ℕ) → length (pieces a j bytes) ≡ suc j
pieces_count a j bytes =
    let middles = replicate j (header_of Middle a) in
    omega (
      arith,
      length-map (pieces a j bytes) (λ f. f.header),
      ap length (pieces_headers a j bytes),
      length-append middles (header_of Last a ∷ []),
      length-replicate j (header_of Middle a),
    )

pub pieces_lengths : (a j : ℕ) (bytes : List ℕ) → 8 * j < length bytes → map (λ f. f.length) (pieces a j bytes) ≡ replicate j 8 ++ ((length bytes - 8 * j) ∷ [])
unfolding pieces frame
pieces_lengths a zero bytes some = ap (λ (n : ℕ). n ∷ []) (let same : length bytes ≡ length bytes - 8 * 0 = omega arith in same)
pieces_lengths a (suc j) bytes some =
    let left : length (drop 8 bytes) - 8 * j ≡ length bytes - 8 * suc j = omega (arith, length-drop 8 bytes) in
    ap₂ (λ (n : ℕ) (ns : List ℕ). n ∷ ns) (length-take-le 8 bytes (omega arith))
    (pieces_lengths a j (drop 8 bytes) (omega (arith, length-drop 8 bytes)) ∙ ap (λ (n : ℕ). replicate j 8 ++ (n ∷ [])) left)

-- None of them is a start.
pub pieces_start_nothing : (a : ℕ) → a ≤ highest_alias → (j : ℕ) (bytes : List ℕ) → any (λ f. starts (part_of f)) (pieces a j bytes) ≡ false
unfolding pieces
pieces_start_nothing a fits zero bytes = rw (part_of_made Last a bytes fits refl)
pieces_start_nothing a fits (suc j) bytes = rw (part_of_made Middle a (take 8 bytes) fits refl) (pieces_start_nothing a fits j (drop 8 bytes))

-- ---- joined

module _ {l : Aliases} {a n : ℕ} (k : Stands l a n) where
  -- After a start, with the payload's bytes before `at` joined: nothing until the last frame, and then the message with the whole payload.
  pub pieces_taken : (event : ℕ) (payload : List ℕ) → length payload ≤ most_payload → (j at : ℕ) → at + 8 * j < length payload → length payload ≤ at + 8 * j + 8
      → answers_to every l (begun n event (take at payload) ∷ []) (pieces a j (drop at payload)) ≡ at_last j (report 0x0F14 n event payload)
  unfolding pieces
  pieces_taken event payload most zero at some few =
      let left = length-drop at payload in
      let all : take at payload ++ drop at payload ≡ payload = take-append-drop at payload in
      let size = last_length (drop at payload) (omega arith) (omega arith) in
      let fits : length (take at payload) + length (drop at payload) ≤ most_payload = omega (arith, length-take-le at payload (omega arith)) in
      ap (λ (o : Outcome). answer_in o ∷ []) (last_taken k event (take at payload) (drop at payload) fits size)
      ∙ ap (λ (bytes : List ℕ). answer 0 (report 0x0F14 n event bytes ∷ []) ∷ []) all
  pieces_taken event payload most (suc j) at some few =
      let rest = drop at payload in
      let left = length-drop at payload in
      let size = middle_length rest (omega arith) in
      let fits : length (take at payload) + length (take 8 rest) ≤ most_payload = omega (arith, length-take-le at payload (omega arith), length-take-le 8 rest (omega arith)) in
      ap (λ (o : Outcome). answer_in o ∷ answers_to every l o.next (pieces a j (drop 8 rest))) (middle_taken k event (take at payload) (take 8 rest) fits size)
      ∙ ap₂ (λ (so_far bytes : List ℕ). answer 0 [] ∷ answers_to every l (begun n event so_far ∷ []) (pieces a j bytes)) (sym (take-add at 8 payload)) (drop-drop 8 at payload)
      ∙ ap (λ (r : List Answer). answer 0 [] ∷ r) (pieces_taken event payload most j (at + 8) (omega arith) (omega arith))

  -- Without their start they are refused with 17, one after another.
  pub pieces_refused : (j : ℕ) (bytes : List ℕ) → 8 * j < length bytes → length bytes ≤ 8 * j + 8 → answers_to every l [] (pieces a j bytes) ≡ replicate (suc j) (answer 17 [])
  unfolding pieces
  pieces_refused zero bytes some few = ap (λ (o : Outcome). answer_in o ∷ []) (unheld_refused k Last refl bytes (last_length bytes (omega arith) (omega arith)))
  pieces_refused (suc j) bytes some few =
      let left = length-drop 8 bytes in
      ap (λ (o : Outcome). answer_in o ∷ answers_to every l o.next (pieces a j (drop 8 bytes))) (unheld_refused k Middle refl (take 8 bytes) (middle_length bytes (omega arith)))
      ∙ ap (λ (r : List Answer). answer 17 [] ∷ r) (pieces_refused j (drop 8 bytes) (omega arith) (omega arith))
