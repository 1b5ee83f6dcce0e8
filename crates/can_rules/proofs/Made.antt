-- A frame that was made: its part, its sender and its bytes, and what joining does with it.
use Prim.Native.Nat.{ℕ, ◌+◌, ◌-◌, ◌≤◌}
use mathlib.Core.Path.{◌≡◌, refl, ap, ap₂, ◌∙◌}
use mathlib.Core.Bool.{Bool, true, false, not, ◌&&◌, false≢true}
use mathlib.Core.List.{List, [], ◌∷◌, ◌++◌}
use native.Mathlib.Omega.{arith}
use borrow.Author.Tests.{eq-eqb, le-ltb}
use lib.Dec.{eqb, leb}
use lib.ListN.{length, replicate}
use lib.Seq.{take-append_seam}
use Rattle.numbers.specs.Numbers.{number_in}
use Rattle.basics.specs.Lists.{any}
use Rattle.can_rules.specs.declared.Part.{Part}
use Rattle.can_rules.specs.declared.Part.TheVariants.{Whole, Start, Middle, Last, OtherHeader}
use Rattle.can_rules.specs.Frames.{part_of, bytes_in, frame}
use Rattle.can_rules.specs.Aliases.{Aliases, bad_aliases, highest_alias, nobody, node_for}
use Rattle.can_rules.specs.Joining.{Begun, begun, most_senders, most_payload, of_sender, has_begun, by, is_other, continues, wrong_length, overflows, sender_of, report, Outcome, outcome, joined, settled, join}
use Rattle.can_rules.proofs.Headers.{alias_in_lem, header_part}
use Rattle.can_rules.proofs.Begun.{begun_alone, nothing_begun, dropped_alone}
use Rattle.can_rules.proofs.Bounds.{Bounded, left_bounded}
use Rattle.can_rules.proofs.Alone.{number_for, good_number}

-- ---- what it is

pub part_of_made : (part : Part) (a : ℕ) (bytes : List ℕ) → a ≤ highest_alias → is_other part ≡ false → part_of (frame part a bytes) ≡ part
unfolding frame
part_of_made part a bytes fits is = header_part part a fits is

pub sender_of_made : (l : Aliases) (part : Part) (a : ℕ) (bytes : List ℕ) → a ≤ highest_alias → sender_of l (frame part a bytes) ≡ node_for l a
unfolding sender_of frame
sender_of_made l part a bytes fits = ap (node_for l) (alias_in_lem part a fits)

pub bytes_of_made : (part : Part) (a : ℕ) (bytes : List ℕ) → bytes_in (frame part a bytes) ≡ bytes
unfolding frame
bytes_of_made part a bytes = take-append_seam bytes (replicate (8 - length bytes) 0)

-- ---- what joining does with it

-- An alias of a good list, and the node that it stands for.
pub record Stands (l : Aliases) (a n : ℕ) : Type 0 where
  pub good_list_lem : bad_aliases l ≡ false
  pub fits : a ≤ highest_alias
  pub for : node_for l a ≡ n
  pub somebody : eqb n nobody ≡ false

none_begun : Bounded []
none_begun = record { at_most_two = omega arith; all_short = refl; each_once = refl }

-- The number that a part of so many bytes gets from a sender.
abbrev number_of : List Begun → ℕ → Part → ℕ → List ℕ → ℕ
number_of s n part size bytes = number_for false part n size (has_begun n s) (leb most_senders (length s)) (any (overflows n bytes) s)

module _ {l : Aliases} {a n : ℕ} (k : Stands l a n) where
  made_settled : (s : List Begun) → Bounded s → (part : Part) → is_other part ≡ false → (bytes : List ℕ)
      → join l s (frame part a bytes) ≡ settled s n bytes (number_of s n part (length bytes) bytes) part
  unfolding join frame
  made_settled s b part is bytes =
      let f = frame part a bytes in
      let sender : sender_of l f ≡ n = sender_of_made l part a bytes k.fits ∙ k.for in
      let like : Part → ℕ → List ℕ → Outcome = λ p m bs. settled s m bs (number_of s m p (length bytes) bs) p in
      ap (λ (i : ℕ). settled s (sender_of l f) (bytes_in f) i (part_of f)) (good_number l s f k.good_list_lem b)
      ∙ ap (λ (bs : List ℕ). like (part_of f) (sender_of l f) bs) (bytes_of_made part a bytes)
      ∙ ap₂ (λ (p : Part) (m : ℕ). like p m bytes) (part_of_made part a bytes k.fits is) sender

  -- By its number: 0 is joined.
  made_numbered : (s : List Begun) → Bounded s → (part : Part) → is_other part ≡ false → (bytes : List ℕ) (i : ℕ) → number_of s n part (length bytes) bytes ≡ i
      → join l s (frame part a bytes) ≡ settled s n bytes i part
  made_numbered s b part is bytes i e = made_settled s b part is bytes ∙ ap (λ (j : ℕ). settled s n bytes j part) e

  pub whole_taken : (s : List Begun) → Bounded s → (bytes : List ℕ) → wrong_length Whole (length bytes) ≡ false
      → join l s (frame Whole a bytes) ≡ outcome 0 (report 0x05B4 n (number_in bytes) [] ∷ []) s
  whole_taken s b bytes size = made_numbered s b Whole refl bytes 0 (rw (k.somebody, size))

  -- A start finds room where nobody else has begun anything, and drops whatever its sender had begun.
  pub start_taken : (s : List Begun) → Bounded s → (bytes : List ℕ) → wrong_length Start (length bytes) ≡ false
      → join l (by n s) (frame Start a bytes) ≡ outcome 0 [] (begun n (number_in bytes) [] ∷ [])
  start_taken s b bytes size =
      made_numbered (by n s) (left_bounded (λ c. not (of_sender n c)) s b) Start refl bytes 0 (rw (k.somebody, size, begun_alone n s, room (has_begun n s) refl))
      ∙ ap (λ (rest : List Begun). outcome 0 [] (rest ++ (begun n (number_in bytes) [] ∷ []))) (dropped_alone n s)
    where
      room : (h : Bool) → has_begun n s ≡ h → (not h && leb most_senders (length (by n s))) ≡ false
      room true e = refl
      room false e = ap (λ (rest : List Begun). leb most_senders (length rest)) (nothing_begun n s e)

  -- Where this sender's message is all that is begun.
  module _ (event : ℕ) (so_far bytes : List ℕ) (most : length so_far + length bytes ≤ most_payload) where
    only_this : Bounded (begun n event so_far ∷ [])
    only_this = record { at_most_two = omega arith; all_short = rw (le-ltb most_payload (length so_far) (omega arith)); each_once = refl }

    go_on : (part : Part) → is_other part ≡ false → number_for false part n (length bytes) true false false ≡ 0 → join l (begun n event so_far ∷ []) (frame part a bytes) ≡ joined (begun n event so_far ∷ []) n bytes part
    go_on part is none =
        made_numbered (begun n event so_far ∷ []) only_this part is bytes 0 (rw (eq-eqb n n refl, le-ltb most_payload (length so_far + length bytes) most) none)

    pub middle_taken : wrong_length Middle (length bytes) ≡ false → join l (begun n event so_far ∷ []) (frame Middle a bytes) ≡ outcome 0 [] (begun n event (so_far ++ bytes) ∷ [])
    middle_taken size = go_on Middle refl (rw (k.somebody, size)) ∙ rw (eq-eqb n n refl)

    pub last_taken : wrong_length Last (length bytes) ≡ false
        → join l (begun n event so_far ∷ []) (frame Last a bytes) ≡ outcome 0 (report 0x0F14 n event (so_far ++ bytes) ∷ []) []
    last_taken size = go_on Last refl (rw (k.somebody, size)) ∙ rw (eq-eqb n n refl)

  -- Where nothing is begun a continuation of the right length is refused with 17.
  pub unheld_refused : (part : Part) → continues part ≡ true → (bytes : List ℕ) → wrong_length part (length bytes) ≡ false → join l [] (frame part a bytes) ≡ outcome 17 [] []
  unheld_refused Whole goes bytes size = absurd (false≢true goes)
  unheld_refused Start goes bytes size = absurd (false≢true goes)
  unheld_refused Middle goes bytes size = made_numbered [] none_begun Middle refl bytes 17 (rw (k.somebody, size))
  unheld_refused Last goes bytes size = made_numbered [] none_begun Last refl bytes 17 (rw (k.somebody, size))
  unheld_refused OtherHeader goes bytes size = absurd (false≢true goes)
