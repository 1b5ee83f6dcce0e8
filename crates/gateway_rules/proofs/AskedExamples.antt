-- W1 by computation: every reason with its number, the first of two lines with its place, and 7, 8, reading and 15 each before the next.
use Prim.Native.Nat.{ℕ}
use mathlib.Core.Path.{◌≡◌, refl}
use mathlib.Core.List.{List, [], ◌∷◌, ◌++◌}
use lib.Dec.{eqb}
use Rattle.numbers.specs.Numbers.{spelled, bytes_of}
use Rattle.range.specs.declared.Block.{Block}
use Rattle.range.specs.Range.{bits_equal, run, is_block, has_number, in_block, single, block_of, house}
use Rattle.message.specs.Mti.{meaning_of}
use Rattle.message.specs.Messages.{bad_nodes, bad_content, other_source}
use Rattle.message.specs.Reading.{fields_in}
use Rattle.message.specs.Saying.{said_by}
use Rattle.gateway_rules.specs.declared.Reason.{Reason}
use Rattle.gateway_rules.specs.declared.Reason.TheVariants.{ArrivalPort, AutomaticEvent, OpenPort, HeldBy, NothingHolds}
use Rattle.gateway_rules.specs.State.{Gate, out_of_bounds, start_of}
use Rattle.gateway_rules.specs.Step.{line}
use Rattle.gateway_rules.specs.Reasons.{first_holding, reason_for, number_in, why_told}

-- ---- reasons

abbrev eight : Block
eight = record { start = 0; k = 3 }

-- Board 7 has event 5 at ports 1, 2 and 3, and an automatic one at port 1; board 9 holds event 5 at port 2 too, and port 3 is open.
abbrev box : Gate
box = record {
  ports = 4;
  automatic = block_of house;
  lines = line 1 7 (single 5) ∷ line 2 9 eight ∷ line 2 7 (single 5) ∷ line 3 7 (single 5) ∷ line 1 7 (single 0x010000000000FFFF) ∷ [];
  marked = λ p. eqb p 3;
}

abbrev of_each : ℕ → ℕ → List Reason
of_each q e = reason_for box q e 0 ∷ reason_for box q e 1 ∷ reason_for box q e 2 ∷ reason_for box q e 3 ∷ []

pub each_reason : (
    of_each 0 5 ≡ ArrivalPort ∷ HeldBy (record { place = 0; node = 7; block = single 5 }) ∷ HeldBy (record { place = 1; node = 9; block = eight }) ∷ OpenPort ∷ []
    )
    × (of_each 2 8 ≡ NothingHolds ∷ NothingHolds ∷ ArrivalPort ∷ OpenPort ∷ [])
    × (of_each 2 0x010000000000FFFF ≡ AutomaticEvent ∷ AutomaticEvent ∷ ArrivalPort ∷ AutomaticEvent ∷ [])
unfolding reason_for first_holding in_block block_of run bits_equal
each_reason = (refl, refl, refl)

-- ---- refusals

abbrev report : ℕ → List ℕ
report e = bytes_of 2 0x05B4 ++ (bytes_of 6 9 ++ bytes_of 8 e)

abbrev cut_short : List ℕ
cut_short = bytes_of 2 0x04C4 ++ bytes_of 6 9

abbrev announcement : List ℕ
announcement = cut_short ++ bytes_of 8 5

abbrev refusals : Gate → List ℕ
refusals g =
    (why_told g 4 4 cut_short).refusal
    ∷ (why_told g 4 1 cut_short).refusal
    ∷ (why_told g 0 4 cut_short).refusal
    ∷ (why_told g 0 1 cut_short).refusal
    ∷ (why_told g 0 1 announcement).refusal
    ∷ (why_told g 0 1 (report 5)).refusal
    ∷ []

-- A box that is out of bounds, ports that are not there, a message that cannot be read, one that is no report, and a report.
pub each_refusal : (refusals (start_of 0 house) ≡ 7 ∷ 7 ∷ 7 ∷ 7 ∷ 7 ∷ 7 ∷ []) × (refusals (start_of 4 house) ≡ 8 ∷ 8 ∷ 8 ∷ 1 ∷ 15 ∷ 0 ∷ [])
unfolding why_told out_of_bounds is_block has_number block_of run bits_equal said_by meaning_of fields_in bad_nodes bad_content other_source spelled bytes_of
each_refusal = (refl, refl)

-- ---- document 02's numbers

abbrev numbers : ℕ → ℕ → List ℕ
numbers q e =
    number_in (why_told box q 0 (report e)) ∷ number_in (why_told box q 1 (report e)) ∷ number_in (why_told box q 2 (report e)) ∷ number_in (why_told box q 3 (report e)) ∷ []

pub each_number : (numbers 0 5 ≡ 1 ∷ 4 ∷ 4 ∷ 3 ∷ []) × (numbers 2 8 ≡ 5 ∷ 5 ∷ 1 ∷ 3 ∷ []) × (numbers 2 0x010000000000FFFF ≡ 2 ∷ 2 ∷ 1 ∷ 2 ∷ [])
unfolding why_told reason_for first_holding out_of_bounds in_block is_block has_number block_of run bits_equal said_by meaning_of fields_in bad_nodes bad_content other_source spelled bytes_of
each_number = (refl, refl, refl)
