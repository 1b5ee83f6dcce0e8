-- Both sides of every limit, by computation: what is expected is written by hand from document 02, W3. Then the laws that the limits follow.
use Prim.Native.Nat.{ℕ, suc, ◌+◌, ◌≤◌}
use mathlib.Core.Path.{◌≡◌, refl, ap}
use mathlib.Core.Logic.{◌↔◌}
use mathlib.Core.Bool.{true, false, not, or-true}
use mathlib.Core.List.{List, [], ◌∷◌}
use native.Mathlib.Omega.{arith}
use borrow.Author.Tests.{eqb-true, eqb-false, eq-eqb, ne_eqb, ltb-false, le-ltb, not-false}
use lib.Dec.{eqb, ltb}
use lib.ListN.{replicate}
use Rattle.numbers.specs.Numbers.{bytes_of}
use Rattle.basics.specs.Lists.{each}
use Rattle.basics.specs.Refusals.{first_of}
use Rattle.basics.proofs.Bools.{neither}
use Rattle.std.specs.Prelude.{Some, None}
use Rattle.message.specs.declared.Message.{Message}
use Rattle.message.specs.Mti.{meaning_of}
use Rattle.message.specs.Messages.{bad_nodes, bad_content, other_source}
use Rattle.can_rules.specs.declared.Frame.{Frame}
use Rattle.can_rules.specs.declared.Part.TheVariants.{Whole, Start, Middle, Last, OtherHeader}
use Rattle.can_rules.specs.Frames.{part_in, part_of, frame, all_bytes}
use Rattle.can_rules.specs.Aliases.{Aliases, listed, most_pairs, bad_aliases, place_in, node_for, alias_for}
use Rattle.can_rules.specs.Joining.{Begun, begun, bad_joining, wrong_length, sender_of, outcome, join}
use Rattle.can_rules.specs.Splitting.{frames_of, split_of, split_tests, split_told}
use Rattle.can_rules.specs.Runs.{piece}
use Rattle.can_rules.proofs.Examples.{first, second, third, nodes, event, up_to, raw}

-- ---- the list of aliases

-- Aliases 0, 1, 2 and so on for the Node IDs 1, 2, 3 and so on.
abbrev pairs : ℕ → Aliases
pairs n = listed (each n (λ i. i)) (each n suc)

-- The count alone.
pub pair_count_lem : (ltb most_pairs 128 ≡ false) × (ltb most_pairs 129 ≡ true)
pair_count_lem = (refl, refl)

-- 128 pairs are in bounds, 129 are not.
pub most_pairs_lem : (bad_aliases (pairs 128) ≡ false) × (bad_aliases (pairs 129) ≡ true)
unfolding bad_aliases each
most_pairs_lem = (refl, refl)

-- An alias too many, and a Node ID too many.
pub unequal : (bad_aliases (listed (1 ∷ 2 ∷ []) (first ∷ [])) ≡ true) × (bad_aliases (listed (1 ∷ []) (first ∷ second ∷ [])) ≡ true)
unfolding bad_aliases
unequal = (refl, refl)

-- Node ID 0 and 1, 2^48 - 1 and 2^48.
pub node_limits : (bad_aliases (listed (1 ∷ []) (0 ∷ [])) ≡ true)
    × (bad_aliases (listed (1 ∷ []) (1 ∷ [])) ≡ false)
    × (bad_aliases (listed (1 ∷ []) (0xFFFFFFFFFFFF ∷ [])) ≡ false)
    × (bad_aliases (listed (1 ∷ []) (0x1000000000000 ∷ [])) ≡ true)
unfolding bad_aliases
node_limits = (refl, refl, refl, refl)

-- Alias 0, FFF and 1000.
pub alias_limits : (bad_aliases (listed (0 ∷ []) (first ∷ [])) ≡ false)
    × (bad_aliases (listed (0xFFF ∷ []) (first ∷ [])) ≡ false)
    × (bad_aliases (listed (0x1000 ∷ []) (first ∷ [])) ≡ true)
unfolding bad_aliases
alias_limits = (refl, refl, refl)

-- An alias twice, and a Node ID twice; that alias and Node ID are the same number is no fault, and no pair at all is none.
pub listed_twice : (bad_aliases (listed (1 ∷ 2 ∷ 1 ∷ []) (first ∷ second ∷ third ∷ [])) ≡ true)
    × (bad_aliases (listed (1 ∷ 2 ∷ 3 ∷ []) (first ∷ second ∷ first ∷ [])) ≡ true)
    × (bad_aliases (listed (1 ∷ 2 ∷ 3 ∷ []) (2 ∷ 3 ∷ 1 ∷ [])) ≡ false)
    × (bad_aliases (listed [] []) ≡ false)
unfolding bad_aliases
listed_twice = (refl, refl, refl, refl)

-- ---- the joining state

-- 256 bytes so far and 257, of the first and of the second sender.
pub so_far_limits : (bad_joining (begun first 7 (replicate 256 1) ∷ []) ≡ false)
    × (bad_joining (begun first 7 (replicate 257 1) ∷ []) ≡ true)
    × (bad_joining (begun first 7 [] ∷ begun second 9 (replicate 256 1) ∷ []) ≡ false)
    × (bad_joining (begun first 7 [] ∷ begun second 9 (replicate 257 1) ∷ []) ≡ true)
unfolding bad_joining
so_far_limits = (refl, refl, refl, refl)

-- None, two and three senders; one sender twice.
pub sender_limits : (bad_joining [] ≡ false)
    × (bad_joining (begun first 7 [] ∷ begun second 9 [] ∷ []) ≡ false)
    × (bad_joining (begun first 7 [] ∷ begun second 9 [] ∷ begun third 1 [] ∷ []) ≡ true)
    × (bad_joining (begun first 7 [] ∷ begun first 9 [] ∷ []) ≡ true)
unfolding bad_joining
sender_limits = (refl, refl, refl, refl)

-- ---- the length of a frame

abbrev begun_by_first : List Begun
begun_by_first = begun first 7 [] ∷ []

-- What joining answers to a frame of the first node by its header and its length.
abbrev joined_as : ℕ → ℕ → ℕ
joined_as header n = (join nodes begun_by_first (raw header n (up_to 8))).refusal

-- Seven, eight and nine bytes of a 05B4, a 0F16 and a 0F15.
pub eight_bytes : (joined_as 0x195B4123 7 ≡ 19) × (joined_as 0x195B4123 8 ≡ 0) × (joined_as 0x195B4123 9 ≡ 19)
    × (joined_as 0x19F16123 7 ≡ 19) × (joined_as 0x19F16123 8 ≡ 0) × (joined_as 0x19F16123 9 ≡ 19)
    × (joined_as 0x19F15123 7 ≡ 19) × (joined_as 0x19F15123 8 ≡ 0) × (joined_as 0x19F15123 9 ≡ 19)
unfolding join sender_of node_for place_in bad_aliases bad_joining part_in
eight_bytes = (refl, refl, refl, refl, refl, refl, refl, refl, refl)

-- None, one, eight and nine bytes of a 0F14.
pub one_to_eight_bytes : (joined_as 0x19F14123 0 ≡ 19) × (joined_as 0x19F14123 1 ≡ 0) × (joined_as 0x19F14123 8 ≡ 0) × (joined_as 0x19F14123 9 ≡ 19)
unfolding join sender_of node_for place_in bad_aliases bad_joining part_in
one_to_eight_bytes = (refl, refl, refl, refl)

-- ---- the payload

-- A middle frame on 248 bytes makes 256; on 249 it is 18.
pub middle_limits : (join nodes (begun first 7 (replicate 248 1) ∷ []) (frame Middle 0x123 (replicate 8 1)) ≡ outcome 0 [] (begun first 7 (replicate 256 1) ∷ []))
    × (join nodes (begun first 7 (replicate 249 1) ∷ []) (frame Middle 0x123 (replicate 8 1)) ≡ outcome 18 [] [])
unfolding join sender_of node_for place_in bad_aliases bad_joining part_in frame
middle_limits = (refl, refl)

-- ---- splitting

-- What splitting answers to a message without payload where there is no room: 6 where nothing else is wrong.
abbrev split_as : Message → ℕ
split_as m = first_of (split_tests nodes m [] [])

abbrev event_from : ℕ → ℕ → Message
event_from mti n = record { mti = mti; source = n; destination = None; event = Some event }

-- A 05B4 is one frame: 13 bytes of output are enough, 12 and none are not.
pub room_limits : (split_as (event_from 0x05B4 first) ≡ 6)
    × (first_of (split_tests nodes (event_from 0x05B4 first) [] (replicate 12 0)) ≡ 6)
    × (first_of (split_tests nodes (event_from 0x05B4 first) [] (replicate 13 0)) ≡ 0)
unfolding bad_aliases bad_nodes bad_content other_source meaning_of alias_for place_in split_of frames_of frame all_bytes bytes_of
room_limits = (refl, refl, refl)

-- 0F15 and 0F16; a 05B4 with bit 15 or bit 14.
pub barred_split : (split_as (event_from 0x0F15 first) ≡ 2)
    × (split_as (event_from 0x0F16 first) ≡ 2)
    × (split_as (event_from (0x8000 + 0x5B4) first) ≡ 2)
    × (split_as (event_from (0x4000 + 0x5B4) first) ≡ 2)
unfolding bad_aliases bad_nodes bad_content other_source meaning_of
barred_split = (refl, refl, refl, refl)

-- Source 0 and 2^48; no event, and a destination; a payload of 05B4 and none of 0F14; a Consumer Identified from a listed node.
pub other_splits : (split_as (event_from 0x05B4 0) ≡ 3)
    × (split_as (event_from 0x05B4 0x1000000000000) ≡ 3)
    × (split_as (record { mti = 0x05B4; source = first; destination = None; event = None }) ≡ 4)
    × (split_as (record { mti = 0x05B4; source = first; destination = Some second; event = Some event }) ≡ 4)
    × (first_of (split_tests nodes (event_from 0x05B4 first) (1 ∷ []) []) ≡ 4)
    × (split_as (event_from 0x0F14 first) ≡ 4)
    × (split_as (event_from 0x04C4 first) ≡ 29)
unfolding bad_aliases bad_nodes bad_content other_source meaning_of alias_for place_in
other_splits = (refl, refl, refl, refl, refl, refl, refl)

-- ---- laws: refusal 7

-- A bad list is 7 for every frame and every message, whatever else is wrong; so is a bad joining state for every frame.
pub bad_list_joins : (l : Aliases) (s : List Begun) (f : Frame) → bad_aliases l ≡ true → (join l s f).refusal ≡ 7
unfolding join
bad_list_joins l s f bad = rw bad

pub bad_list_splits : (l : Aliases) (m : Message) (payload out : List ℕ) → bad_aliases l ≡ true → (split_told l m payload out).refusal ≡ 7
unfolding split_told
bad_list_splits l m payload out bad = rw bad

pub bad_state_joins : (l : Aliases) (s : List Begun) (f : Frame) → bad_joining s ≡ true → (join l s f).refusal ≡ 7
unfolding join
bad_state_joins l s f bad = rw (bad, or-true (bad_aliases l))

-- ---- laws: refusal 19

is_eight : (n : ℕ) → (not (eqb n 8) ≡ false) ↔ (n ≡ 8)
is_eight n = (λ h. eqb-true n 8 (not-false _ h), λ e. ap not (eq-eqb n 8 e))

-- Eight bytes and no other number of a 05B4, a 0F16 and a 0F15.
pub eight_exactly : (n : ℕ) → ((wrong_length Whole n ≡ false) ↔ (n ≡ 8))
    × ((wrong_length Start n ≡ false) ↔ (n ≡ 8))
    × ((wrong_length Middle n ≡ false) ↔ (n ≡ 8))
eight_exactly n = (is_eight n, is_eight n, is_eight n)

-- One to eight of a 0F14.
pub one_to_eight_exactly : (n : ℕ) → (wrong_length Last n ≡ false) ↔ ((1 ≤ n) × (n ≤ 8))
one_to_eight_exactly n = (
  λ h. let k = neither (eqb n 0) (ltb 8 n) h in let some = eqb-false n 0 k.0 in (at_least some, ltb-false 8 n k.1),
  λ h. let some = h.0 in rw (ne_eqb n 0 (λ e. omega arith)) (le-ltb 8 n h.1),
)
  where
    at_least : (n ≡ 0 → ⊥) → 1 ≤ n
    at_least some = omega arith

-- ---- laws: another header

pub other_no_piece : (f : Frame) → part_of f ≡ OtherHeader → piece f ≡ false
other_no_piece f e = rw e

pub other_refused : (l : Aliases) (s : List Begun) (f : Frame) → bad_aliases l ≡ false → bad_joining s ≡ false → part_of f ≡ OtherHeader
    → (join l s f).refusal ≡ 29
unfolding join
other_refused l s f good fits e = rw (good, fits, e)
