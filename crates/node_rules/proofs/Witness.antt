-- That nothing above is vacuous, by computation: a new node whose report is written, and a node that answers Identify Events.
use Prim.Native.Nat.{ℕ, zero, suc, ◌^◌, ◌<◌}
use mathlib.Core.Path.{◌≡◌, refl, sym, ◌∙◌}
use mathlib.Core.Logic.{⊎_elim}
use mathlib.Core.Bool.{true, false, false≢true}
use mathlib.Core.List.{List, [], ◌∷◌, ◌++◌}
use native.Mathlib.Omega.{arith}
use Rattle.range.specs.Range.{is_block, in_block, has_number}
use Rattle.numbers.specs.Numbers.{spelled, bytes_of}
use Rattle.message.specs.declared.Kind.TheVariants.{EventReport, ProducerIdentified}
use Rattle.message.specs.Mti.{meaning_of}
use Rattle.message.specs.Messages.{bad_nodes, bad_content, other_source}
use Rattle.message.specs.Reading.{fields_in, read_told}
use Rattle.message.specs.Saying.{said_by}
use Rattle.node_rules.specs.declared.Call.{Call}
use Rattle.node_rules.specs.declared.Call.TheVariants.{Initialise, Announce, Produce, Receive}
use Rattle.node_rules.specs.Boards.{Board, unadvertised, event_of, mark_of, out_of_bounds}
use Rattle.basics.specs.Lists.{each}
use Rattle.node_rules.specs.Sending.{with_event, identified_mti}
use Rattle.node_rules.specs.Hearing.{heard_by, chosen, answering}
use Rattle.node_rules.specs.Calls.{outcome}
use Rattle.node_rules.specs.Histories.{Made, given_by, done, after, messages_up_to, wrote, New, restarts, IdentifiedSince, log}
use Rattle.basics.proofs.Sinces.{since_end}
use Rattle.node_rules.proofs.Demand2.{reports_identified}

-- A signal board: slots 0 and 1 produce the same event, slot 2 consumes it, slot 3 consumes an automatic one.
abbrev event : ℕ
event = 0x0A00000000010001

abbrev clock : ℕ
clock = 0x0100000000000007

abbrev board : Board
board = record {
  node = record { id = 0x0A0000000001; state = 0; automatic = record { start = 0x0100000000000000; k = 16 } };
  slots = record {
    roles = 0 ∷ 0 ∷ 1 ∷ 1 ∷ [];
    events = event ∷ event ∷ event ∷ clock ∷ [];
    statuses = 2 ∷ 0 ∷ 1 ∷ 0 ∷ [];
    marks = 0 ∷ 0 ∷ 0 ∷ 0 ∷ [];
  };
}

abbrev lent : ℕ → List ℕ
lent zero = []
lent (suc n) = 0 ∷ lent n

-- A call with an output of so many bytes.
abbrev made : Call → ℕ → Made
made call room = record { call = call; bytes = []; out = lent room }

unmarked : (i : ℕ) → mark_of board.slots i ≡ unadvertised
unmarked zero = refl
unmarked (suc zero) = refl
unmarked (suc (suc zero)) = refl
unmarked (suc (suc (suc zero))) = refl
unmarked (suc (suc (suc (suc i)))) = refl

fit : (i : ℕ) → event_of board.slots i < 2 ^ 64
fit zero = omega arith
fit (suc zero) = omega arith
fit (suc (suc zero)) = omega arith
fit (suc (suc (suc zero))) = omega arith
fit (suc (suc (suc (suc i)))) = omega arith

new : New board
new = record { fresh = refl; unmarked = unmarked; fit = fit }

-- Slot 0 is announced, slot 1 reports.
abbrev two_calls : List Made
two_calls = made Initialise 14 ∷ made (Announce 0) 16 ∷ []

reported : wrote EventReport event (done (after board two_calls) (made (Produce 1) 16)) ≡ true
unfolding outcome out_of_bounds has_number is_block in_block each identified_mti messages_up_to meaning_of read_told fields_in bad_nodes bad_content other_source spelled bytes_of
reported = refl

outside : in_block board.node.automatic event ≡ false
unfolding in_block
outside = refl

pub something_identified : IdentifiedSince event (log board two_calls)
something_identified = reports_identified board new two_calls (made (Produce 1) 16) event outside reported

-- The initialisation after them identifies nothing and is accepted.
unsaid : wrote ProducerIdentified event (done (after board two_calls) (made Initialise 14)) ≡ false
unfolding outcome out_of_bounds has_number is_block in_block each identified_mti messages_up_to meaning_of read_told fields_in bad_nodes bad_content other_source spelled bytes_of
unsaid = refl

ended : restarts (done (after board two_calls) (made Initialise 14)) ≡ true
unfolding outcome out_of_bounds has_number is_block in_block each identified_mti meaning_of bytes_of
ended = refl

-- Restarted, the same call is refused with 12.
pub restart_forgets : (given_by (after board (two_calls ++ (made Initialise 14 ∷ []))) (made (Produce 1) 16)).refusal ≡ 12
unfolding outcome out_of_bounds has_number is_block in_block each identified_mti meaning_of bytes_of
restart_forgets = refl

-- And nothing is identified since: the restart has ended it.
pub restart_ends : IdentifiedSince event (log board (two_calls ++ (made Initialise 14 ∷ []))) → ⊥
unfolding IdentifiedSince
restart_ends s = ⊎_elim (λ w. false≢true (sym unsaid ∙ w)) (λ k. k.1 ended) (since_end _ _ (log board two_calls) (done (after board two_calls) (made Initialise 14)) s)

-- Slot 0, whose status is unknown, is announced as that.
pub announced : (given_by (after board (made Initialise 14 ∷ [])) (made (Announce 0) 16)).sent ≡ with_event 0x0547 0x0A0000000001 event ∷ []
unfolding outcome out_of_bounds has_number is_block in_block each identified_mti meaning_of bytes_of
announced = refl

-- Identify Events: Producer Identified unknown by slot 0, Consumer Identified invalid by slot 2, nothing for the automatic event.
abbrev identify_events : List ℕ
identify_events = bytes_of 2 0x0970 ++ bytes_of 6 0x0A0000000009

abbrev received : Made
received = record { call = Receive; bytes = identify_events; out = lent 32 }

pub answers : (given_by (after board (made Initialise 14 ∷ [])) received).sent
    ≡ with_event 0x0547 0x0A0000000001 event ∷ with_event 0x04C5 0x0A0000000001 event ∷ []
unfolding outcome out_of_bounds has_number is_block in_block each identified_mti heard_by said_by answering chosen meaning_of fields_in bad_nodes bad_content other_source spelled bytes_of
answers = refl

pub answers_mark : (given_by (after board (made Initialise 14 ∷ [])) received).next.slots.marks ≡ 1 ∷ 1 ∷ 1 ∷ 1 ∷ []
unfolding outcome out_of_bounds has_number is_block in_block each identified_mti heard_by said_by answering chosen meaning_of fields_in bad_nodes bad_content other_source spelled bytes_of
answers_mark = refl
