-- That nothing else here is vacuous, by computation: what is expected is written by hand from document 02 and 001 section 7.
use Prim.Native.Nat.{ℕ, zero, suc}
use mathlib.Core.Path.{◌≡◌, refl}
use mathlib.Core.Bool.{Bool, true}
use mathlib.Core.List.{List, [], ◌∷◌, ◌++◌}
use lib.ListN.{length, drop, replicate}
use Rattle.numbers.specs.Numbers.{spelled, bytes_of}
use Rattle.basics.specs.Refusals.{first_of}
use Rattle.message.specs.Mti.{meaning_of}
use Rattle.message.specs.Messages.{bad_nodes, bad_content, other_source}
use Rattle.can_rules.specs.declared.Frame.{Frame}
use Rattle.can_rules.specs.declared.Part.TheVariants.{Whole, Start, Middle, Last}
use Rattle.can_rules.specs.Frames.{part_in, frame, all_bytes}
use Rattle.can_rules.specs.Aliases.{Aliases, listed, bad_aliases, place_in, node_for, alias_for}
use Rattle.can_rules.specs.Joining.{Begun, begun, bad_joining, sender_of, report, outcome, join}
use Rattle.can_rules.specs.Splitting.{pieces, frames_of, split_of, split_tests}
use Rattle.can_rules.specs.Runs.{answer, answers_to}

-- ---- three nodes and their frames

abbrev pub first : ℕ
first = 0x0A0000000001

abbrev pub second : ℕ
second = 0x0A0000000002

abbrev pub third : ℕ
third = 0x0A0000000003

abbrev pub nodes : Aliases
nodes = listed (0x123 ∷ 0x456 ∷ 0xFFF ∷ []) (first ∷ second ∷ third ∷ [])

-- 1 to n.
abbrev pub up_to : ℕ → List ℕ
up_to zero = []
up_to (suc n) = up_to n ++ (suc n ∷ [])

abbrev pub event : ℕ
event = 0x0102030405060708

-- The frames of a report with n bytes from a node.
abbrev sent_by : ℕ → ℕ → List Frame
sent_by node n = split_of nodes (report 0x0F14 node event (up_to n)).message (up_to n)

abbrev pub raw : ℕ → ℕ → List ℕ → Frame
raw header n bytes = record { header = header; length = n; bytes = bytes }

abbrev all : Frame → Bool
all f = true

-- ---- splitting

-- A report with 20 bytes: a start, two middles, and four bytes in the last, the others zero.
pub twenty_bytes : sent_by first 20
    ≡ raw 0x19F16123 8 (1 ∷ 2 ∷ 3 ∷ 4 ∷ 5 ∷ 6 ∷ 7 ∷ 8 ∷ [])
    ∷ raw 0x19F15123 8 (1 ∷ 2 ∷ 3 ∷ 4 ∷ 5 ∷ 6 ∷ 7 ∷ 8 ∷ [])
    ∷ raw 0x19F15123 8 (9 ∷ 10 ∷ 11 ∷ 12 ∷ 13 ∷ 14 ∷ 15 ∷ 16 ∷ [])
    ∷ raw 0x19F14123 4 (17 ∷ 18 ∷ 19 ∷ 20 ∷ 0 ∷ 0 ∷ 0 ∷ 0 ∷ [])
    ∷ []
unfolding split_of frames_of pieces frame bytes_of alias_for place_in
twenty_bytes = refl

pub no_payload : split_of nodes (report 0x05B4 third event []).message [] ≡ raw 0x195B4FFF 8 (1 ∷ 2 ∷ 3 ∷ 4 ∷ 5 ∷ 6 ∷ 7 ∷ 8 ∷ []) ∷ []
unfolding split_of frames_of frame bytes_of alias_for place_in
no_payload = refl

-- Both sides of eight, and the most.
pub how_many_lem : (length (sent_by first 1) ≡ 2) × (length (sent_by first 8) ≡ 2) × (length (sent_by first 9) ≡ 3) × (length (sent_by first 256) ≡ 33)
unfolding split_of frames_of pieces
how_many_lem = (refl, refl, refl, refl)

-- A short last frame, written out.
pub written : all_bytes (drop 3 (sent_by first 20)) ≡ 0x19 ∷ 0xF1 ∷ 0x41 ∷ 0x23 ∷ 4 ∷ 17 ∷ 18 ∷ 19 ∷ 20 ∷ 0 ∷ 0 ∷ 0 ∷ 0 ∷ []
unfolding split_of frames_of pieces frame bytes_of all_bytes alias_for place_in
written = refl

-- 52 bytes of output are enough for four frames, 51 are not; a node that is not in the list; 257 bytes; no event report.
abbrev split_with : ℕ → ℕ → ℕ → ℕ → ℕ
split_with mti node n room = first_of (split_tests nodes (report mti node event []).message (up_to n) (replicate room 0))

pub split_numbers : (split_with 0x0F14 first 20 52 ≡ 0) × (split_with 0x0F14 first 20 51 ≡ 6) × (split_with 0x0F14 0x0A0000000009 20 52 ≡ 16)
    × (split_with 0x0F14 first 257 4000 ≡ 4) × (split_with 0x0594 first 0 52 ≡ 29)
unfolding split_of frames_of pieces frame bytes_of all_bytes alias_for place_in bad_aliases bad_nodes bad_content other_source meaning_of
split_numbers = (refl, refl, refl, refl, refl)

-- ---- joining

-- Two senders at once, the second one done first.
pub both_at_once : answers_to all nodes []
    (frame Start 0x123 (bytes_of 8 7)
    ∷ frame Start 0x456 (bytes_of 8 9)
    ∷ frame Middle 0x123 (up_to 8)
    ∷ frame Last 0x456 (up_to 5)
    ∷ frame Last 0x123 (1 ∷ [])
    ∷ [])
    ≡ answer 0 []
    ∷ answer 0 []
    ∷ answer 0 []
    ∷ answer 0 (report 0x0F14 second 9 (up_to 5) ∷ [])
    ∷ answer 0 (report 0x0F14 first 7 (up_to 8 ++ (1 ∷ [])) ∷ [])
    ∷ []
unfolding join sender_of node_for place_in bad_aliases bad_joining part_in frame bytes_of spelled
both_at_once = refl

-- Two have begun: a third start is 20, one of the two may start anew, and once one is done the third may start.
abbrev two_begun : List Begun
two_begun = begun first 7 (up_to 8) ∷ begun second 9 [] ∷ []

pub a_third_start : answers_to all nodes two_begun
    (frame Start 0xFFF (bytes_of 8 1)
    ∷ frame Last 0xFFF (up_to 1)
    ∷ frame Start 0x456 (bytes_of 8 2)
    ∷ frame Last 0x123 (up_to 2)
    ∷ frame Start 0xFFF (bytes_of 8 3)
    ∷ [])
    ≡ answer 20 []
    ∷ answer 17 []
    ∷ answer 0 []
    ∷ answer 0 (report 0x0F14 first 7 (up_to 8 ++ up_to 2) ∷ [])
    ∷ answer 0 []
    ∷ []
unfolding join sender_of node_for place_in bad_aliases bad_joining part_in frame bytes_of spelled
a_third_start = refl

pub a_third_start_keeps : join nodes two_begun (frame Start 0xFFF (bytes_of 8 1)) ≡ outcome 20 [] two_begun
unfolding join sender_of node_for place_in bad_aliases bad_joining part_in frame bytes_of
a_third_start_keeps = refl

-- A new start drops what its own sender had begun, and a 05B4 drops nothing.
pub new_start : join nodes two_begun (frame Start 0x123 (bytes_of 8 5)) ≡ outcome 0 [] (begun second 9 [] ∷ begun first 5 [] ∷ [])
unfolding join sender_of node_for place_in bad_aliases bad_joining part_in frame bytes_of spelled
new_start = refl

pub whole_between : join nodes two_begun (frame Whole 0x123 (bytes_of 8 5)) ≡ outcome 0 (report 0x05B4 first 5 [] ∷ []) two_begun
unfolding join sender_of node_for place_in bad_aliases bad_joining part_in frame bytes_of spelled
whole_between = refl

-- A middle frame lengthens its own sender's payload.
pub own_payload : join nodes two_begun (frame Middle 0x456 (up_to 8)) ≡ outcome 0 [] (begun first 7 (up_to 8) ∷ begun second 9 (up_to 8) ∷ [])
unfolding join sender_of node_for place_in bad_aliases bad_joining part_in frame
own_payload = refl

-- 256 bytes are joined; one more is 18, which drops that sender's message only.
pub most_bytes : join nodes (begun first 7 (replicate 248 1) ∷ begun second 9 [] ∷ []) (frame Last 0x123 (replicate 8 1))
    ≡ outcome 0 (report 0x0F14 first 7 (replicate 256 1) ∷ []) (begun second 9 [] ∷ [])
unfolding join sender_of node_for place_in bad_aliases bad_joining part_in frame
most_bytes = refl

pub too_many_bytes : join nodes (begun first 7 (replicate 249 1) ∷ begun second 9 [] ∷ []) (frame Last 0x123 (replicate 8 1)) ≡ outcome 18 [] (begun second 9 [] ∷ [])
unfolding join sender_of node_for place_in bad_aliases bad_joining part_in frame
too_many_bytes = refl

-- Every other refusal keeps what was begun.
pub wrong_length_keeps : join nodes two_begun (raw 0x19F15123 7 (up_to 8)) ≡ outcome 19 [] two_begun
unfolding join sender_of node_for place_in bad_aliases bad_joining part_in
wrong_length_keeps = refl

-- An alias that is not in the list, a wrong length, another header, a third sender in the state.
pub other_numbers : ((join nodes [] (frame Whole 0x124 (up_to 8))).refusal ≡ 16)
    × ((join nodes [] (raw 0x195B4123 7 (up_to 8))).refusal ≡ 19)
    × ((join nodes [] (raw 0x19F14123 9 (up_to 8))).refusal ≡ 19)
    × ((join nodes [] (raw 0x19F14123 0 (up_to 8))).refusal ≡ 19)
    × ((join nodes [] (raw 0x195B5123 8 (up_to 8))).refusal ≡ 29)
    × ((join nodes [] (raw 0x395B4123 8 (up_to 8))).refusal ≡ 29)
    × ((join nodes (begun third 1 [] ∷ two_begun) (frame Whole 0x123 (up_to 8))).refusal ≡ 7)
unfolding join sender_of node_for place_in bad_aliases bad_joining part_in frame
other_numbers = (refl, refl, refl, refl, refl, refl, refl)
