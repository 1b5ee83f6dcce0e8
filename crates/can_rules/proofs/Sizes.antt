-- The frames of a message: how many there are, how long each is, and that they are frames of the bus.
use Prim.Native.Nat.{ℕ, zero, suc, ◌+◌, ◌-◌, ◌*◌, ◌^◌, ◌≤◌, ◌<◌}
use mathlib.Core.Path.{◌≡◌, refl, ap, ap₂}
use mathlib.Core.Bool.{Bool, true, false, cond, true≢false}
use mathlib.Core.List.{List, [], ◌∷◌, ◌++◌, map}
use native.Mathlib.Omega.{arith}
use borrow.Author.Tests.{eq-eqb, le-ltb, lt-leb}
use lib.Dec.{eqb, leb, ltb}
use lib.ListN.{length, take, drop, replicate, length-append, length-take, length-drop, length-replicate}
use Rattle.numbers.specs.Numbers.{bytes_of}
use Rattle.numbers.proofs.Laws.{bytes_length}
use Rattle.basics.specs.Lists.{any}
use Rattle.basics.specs.Refusals.{first_of}
use Rattle.basics.proofs.Bools.{neither}
use Rattle.message.specs.declared.Message.{Message}
use Rattle.message.specs.Messages.{field_bytes}
use Rattle.can_rules.specs.declared.Part.{Part}
use Rattle.can_rules.specs.declared.Part.TheVariants.{Whole, Start, Middle, Last}
use Rattle.can_rules.specs.Frames.{mti_of, header_of, frame, all_bytes}
use Rattle.can_rules.specs.Aliases.{Aliases, highest_alias, alias_for}
use Rattle.can_rules.specs.Joining.{Handed}
use Rattle.can_rules.specs.Splitting.{pieces, middles, frames_of, split_of, report_tests}
use Rattle.can_rules.proofs.Pieces.{pieces_headers, pieces_count, pieces_lengths}
use Rattle.can_rules.proofs.Reports.{Reporting, splittable}
use Rattle.can_rules.proofs.Reports.Reporting.{bare, laden}
use Rattle.can_rules.proofs.Written.{off_bus, not_eight, frames_size}

-- ---- headers and lengths

-- The lengths of a message's frames: eight, and with payload as many more of eight as leave one to eight for the last.
abbrev pub lengths_for : ℕ → List ℕ → List ℕ
lengths_for mti payload = cond (eqb mti 0x05B4) (8 ∷ []) (8 ∷ (replicate (middles payload) 8 ++ ((length payload - 8 * middles payload) ∷ [])))

abbrev pub headers_for : ℕ → ℕ → List ℕ → List ℕ
headers_for mti a payload = cond (eqb mti 0x05B4) (header_of Whole a ∷ []) (header_of Start a ∷ (replicate (middles payload) (header_of Middle a) ++ (header_of Last a ∷ [])))

frames_sizes : (a n : ℕ) {h : Handed} → Reporting n h → map (λ f. f.length) (frames_of a h.message h.payload) ≡ lengths_for h.message.mti h.payload
unfolding frames_of frame
frames_sizes a n (bare event) = ap (λ (k : ℕ). k ∷ []) (bytes_length 8 event)
frames_sizes a n (laden event payload some most) = ap₂ (λ (k : ℕ) (ks : List ℕ). k ∷ ks) (bytes_length 8 event) (pieces_lengths a (middles payload) payload (omega arith))

last_size : (n : ℕ) {h : Handed} → Reporting n h → eqb h.message.mti 0x05B4 ≡ false
    → (1 ≤ length h.payload - 8 * middles h.payload) × (length h.payload - 8 * middles h.payload ≤ 8)
last_size n (bare event) other = absurd (true≢false other)
last_size n (laden event payload some most) other = (omega arith, omega arith)

module _ (l : Aliases) (m : Message) (payload : List ℕ) (e : first_of (report_tests l m payload) ≡ 0) where
  pub sizes : map (λ f. f.length) (split_of l m payload) ≡ lengths_for m.mti payload
  unfolding split_of
  sizes = frames_sizes (alias_for l m.source) m.source (splittable l m payload e).one_of_two

  -- The last frame of a message with payload has one to eight bytes.
  pub last_some : eqb m.mti 0x05B4 ≡ false → (1 ≤ length payload - 8 * middles payload) × (length payload - 8 * middles payload ≤ 8)
  last_some other = last_size m.source (splittable l m payload e).one_of_two other

frames_headers : (a : ℕ) (m : Message) (payload : List ℕ) → map (λ f. f.header) (frames_of a m payload) ≡ headers_for m.mti a payload
unfolding frames_of frame
frames_headers a m payload = go (eqb m.mti 0x05B4)
  where
    go : (t : Bool)
        → map (λ f. f.header) (cond t (frame Whole a (field_bytes 8 m.event) ∷ []) (frame Start a (field_bytes 8 m.event) ∷ pieces a (middles payload) payload))
        ≡ cond t (header_of Whole a ∷ []) (header_of Start a ∷ (replicate (middles payload) (header_of Middle a) ++ (header_of Last a ∷ [])))
    go true = refl
    go false = ap (λ (hs : List ℕ). header_of Start a ∷ hs) (pieces_headers a (middles payload) payload)

frames_count : (a : ℕ) (m : Message) (payload : List ℕ) → length (frames_of a m payload) ≡ cond (eqb m.mti 0x05B4) 1 (1 + middles payload + 1)
unfolding frames_of
frames_count a m payload = go (eqb m.mti 0x05B4)
  where
    go : (t : Bool)
        → length (cond t (frame Whole a (field_bytes 8 m.event) ∷ []) (frame Start a (field_bytes 8 m.event) ∷ pieces a (middles payload) payload))
        ≡ cond t 1 (1 + middles payload + 1)
    go true = refl
    go false = omega (arith, pieces_count a (middles payload) payload)

module _ (l : Aliases) (m : Message) (payload : List ℕ) where
  pub headers : map (λ f. f.header) (split_of l m payload) ≡ headers_for m.mti (alias_for l m.source) payload
  unfolding split_of
  headers = frames_headers (alias_for l m.source) m payload

  pub frame_count : length (split_of l m payload) ≡ cond (eqb m.mti 0x05B4) 1 (1 + middles payload + 1)
  unfolding split_of
  frame_count = frames_count (alias_for l m.source) m payload

-- ---- frames of the bus

made_on_bus : (part : Part) (a : ℕ) (bytes : List ℕ) → a ≤ highest_alias → mti_of part < 0x1000 → length bytes ≤ 8 → off_bus (frame part a bytes) ≡ false
unfolding frame
made_on_bus part a bytes low mti most =
    let zeros : List ℕ = replicate (8 - length bytes) 0 in
    let eight : length (bytes ++ zeros) ≡ 8 = omega (arith, length-append bytes zeros, length-replicate {A = ℕ} (8 - length bytes) 0) in
    rw (lt-leb (2 ^ 29) (header_of part a) (omega arith), le-ltb 8 (length bytes) most, eq-eqb (length (bytes ++ zeros)) 8 eight)

pieces_on_bus : (a : ℕ) → a ≤ highest_alias → (j : ℕ) (bytes : List ℕ) → length bytes ≤ 8 * j + 8 → any off_bus (pieces a j bytes) ≡ false
unfolding pieces
pieces_on_bus a low zero bytes most = rw (made_on_bus Last a bytes low (omega arith) (omega arith))
pieces_on_bus a low (suc j) bytes most =
    let eight : length (take 8 bytes) ≤ 8 = omega (arith, length-take 8 bytes) in
    rw (made_on_bus Middle a (take 8 bytes) low (omega arith) eight) (pieces_on_bus a low j (drop 8 bytes) (omega (arith, length-drop 8 bytes)))

frames_on_bus : (a n : ℕ) → a ≤ highest_alias → {h : Handed} → Reporting n h → any off_bus (frames_of a h.message h.payload) ≡ false
unfolding frames_of
frames_on_bus a n low (bare event) = rw (made_on_bus Whole a (bytes_of 8 event) low (omega arith) (omega (arith, bytes_length 8 event)))
frames_on_bus a n low (laden event payload some most) =
    rw (made_on_bus Start a (bytes_of 8 event) low (omega arith) (omega (arith, bytes_length 8 event))) (pieces_on_bus a low (middles payload) payload (omega arith))

any_less : {A : Type 0} (p q : A → Bool) → ((x : A) → p x ≡ false → q x ≡ false) → (xs : List A) → any p xs ≡ false → any q xs ≡ false
any_less p q less [] h = refl
any_less p q less (x ∷ xs) h = let k = neither (p x) (any p xs) h in rw (less x k.0) (any_less p q less xs k.1)

module _ (l : Aliases) (m : Message) (payload : List ℕ) (e : first_of (report_tests l m payload) ≡ 0) where
  pub split_frames_whole : any off_bus (split_of l m payload) ≡ false
  unfolding split_of
  split_frames_whole = let h = splittable l m payload e in frames_on_bus (alias_for l m.source) m.source h.stands.fits h.one_of_two

  -- Thirteen bytes for each frame.
  pub split_size : length (all_bytes (split_of l m payload)) ≡ 13 * length (split_of l m payload)
  split_size =
      frames_size (split_of l m payload)
      (any_less off_bus not_eight (λ f h. (neither (ltb 8 f.length) _ (neither (leb (2 ^ 29) f.header) _ h).1).1) (split_of l m payload) split_frames_whole)
