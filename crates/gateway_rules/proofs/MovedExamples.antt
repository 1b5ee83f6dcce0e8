-- W2 by computation: a board that is carried from leg 1 to leg 3, two boards with one Node ID, what a restart leaves in its order, and what it does not end.
use Prim.Native.Nat.{ℕ}
use mathlib.Core.Path.{◌≡◌, refl}
use mathlib.Core.Bool.{true}
use mathlib.Core.List.{List, [], ◌∷◌}
use native.Mathlib.Omega.{arith}
use lib.Dec.{eqb}
use Rattle.std.specs.Prelude.{Some, None}
use Rattle.numbers.specs.Numbers.{spelled, bytes_of}
use Rattle.range.specs.Range.{bits_equal, run, is_block, has_number, in_block, single, block_of, house, inside}
use Rattle.message.specs.declared.Saying.TheVariants.{Restart}
use Rattle.message.specs.Mti.{meaning_of}
use Rattle.message.specs.Messages.{bad_nodes, bad_content, other_source}
use Rattle.message.specs.Reading.{fields_in}
use Rattle.message.specs.Saying.{said_by}
use Rattle.basics.specs.Since.Never.{nothing, nor}
use Rattle.gateway_rules.specs.State.{Gate, out_of_bounds, start_of}
use Rattle.gateway_rules.specs.Step.{line, announce, hear, taken, wants, goes_to, step}
use Rattle.gateway_rules.specs.History.{Entry, Restarts, Live}
use Rattle.gateway_rules.proofs.Entries.{entry, with_event, initialized, said, printed, row}

-- A node's announcement of an event, its restart, and the panel's report of an event, which comes in by port 0.
abbrev announces : ℕ → ℕ → ℕ → Entry
announces port node e = entry port (with_event 0x04C4 node e)

abbrev restarts : ℕ → ℕ → Entry
restarts port node = entry port (initialized node)

abbrev reports : ℕ → Entry
reports e = entry 0 (with_event 0x05B4 1 e)

-- Boards 7 and 9 on leg 1, each with its own event. Board 7 is carried to leg 3, comes up and announces: its report goes to leg 3 only, and board 9's to leg 1.
abbrev carried : List Entry
carried =
    announces 1 7 70
    ∷ announces 1 9 90
    ∷ reports 70
    ∷ restarts 3 7
    ∷ reports 70
    ∷ announces 3 7 70
    ∷ reports 70
    ∷ reports 90
    ∷ []

pub carried_lines : printed (start_of 4 house) carried
    ≡ row 0 1 0 1 1 1 ∷ row 0 1 0 1 1 2 ∷ row 0 0 1 0 0 2 ∷ row 0 1 1 1 0 1 ∷ row 0 0 0 0 0 1 ∷ row 0 1 1 1 0 2 ∷ row 0 0 0 0 1 2 ∷ row 0 0 1 0 0 2 ∷ []
unfolding step out_of_bounds is_block has_number in_block block_of run bits_equal inside wants goes_to taken announce said_by meaning_of fields_in bad_nodes bad_content other_source spelled bytes_of
carried_lines = refl

-- Two boards with Node ID 11, on legs 1 and 2, and board 9 on leg 1: the restart of either takes the lines of both, and leaves board 9's.
abbrev one_node : List Entry
one_node =
    announces 1 11 110
    ∷ announces 2 11 111
    ∷ announces 1 9 90
    ∷ restarts 1 11
    ∷ reports 111
    ∷ announces 1 11 110
    ∷ reports 110
    ∷ restarts 2 11
    ∷ reports 110
    ∷ reports 90
    ∷ []

pub one_node_lines : printed (start_of 4 house) one_node
    ≡ row 0 1 0 1 1 1 ∷ row 0 1 1 0 1 2 ∷ row 0 1 0 1 1 3 ∷ row 0 1 0 1 1 1 ∷ row 0 0 0 0 0 1 ∷ row 0 1 0 1 1 2 ∷ row 0 0 1 0 0 2 ∷ row 0 1 1 0 1 1 ∷ row 0 0 0 0 0 1 ∷ row 0 0 1 0 0 1 ∷ []
unfolding step out_of_bounds is_block has_number in_block block_of run bits_equal inside wants goes_to taken announce said_by meaning_of fields_in bad_nodes bad_content other_source spelled bytes_of
one_node_lines = refl

-- ---- what a restart leaves, and what it does not end

abbrev mixed : Gate
mixed = record {
  ports = 4;
  automatic = block_of house;
  lines = line 1 7 (single 70) ∷ line 2 8 (single 70) ∷ line 3 7 (single 71) ∷ line 1 9 (single 90) ∷ line 1 6 (single 70) ∷ line 2 7 (single 70) ∷ line 1 8 (single 80) ∷ [];
  marked = λ p. eqb p 2;
}

-- Of a table with lines of board 7 at three ports, those of the others, its neighbours' too, in their order; and the open mark.
pub rest_in_order : ((hear mixed 0 7 Restart).lines ≡ line 2 8 (single 70) ∷ line 1 9 (single 90) ∷ line 1 6 (single 70) ∷ line 1 8 (single 80) ∷ [])
    × ((hear mixed 0 7 Restart).marked 2 ≡ true)
rest_in_order = (refl, refl)

-- What board 7 announced at port 1 is live after board 8 has restarted there.
pub not_ended : Live (said 1 0x04C4 7 (Some 70) ∷ said 1 0x0100 8 None ∷ []) 1 7 (single 70)
unfolding Live said_by meaning_of
not_ended = record {
  before = [];
  by = said 1 0x04C4 7 (Some 70);
  later = said 1 0x0100 8 None ∷ [];
  split = refl;
  started = record { here = refl; sender = refl; says = refl };
  lasting = nor (λ (r : Restarts 7 (said 1 0x0100 8 None)). omega (arith, r.node)) nothing;
}
