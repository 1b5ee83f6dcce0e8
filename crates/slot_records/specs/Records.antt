-- The node's own record, lent (document 01, "Matching forms to places": "the node's own record lent to the call that initialises it").
use Rattle.std.specs.Prelude.{ℕ, cond, List, [], eqb, length}
use Rattle.node_rules.specs.declared.Node.{Node}
use Rattle.node_rules.specs.declared.Call.TheVariants.{Initialise}
use Rattle.node_rules.specs.Boards.{Slots}
use Rattle.node_rules.specs.Sending.{all_bytes}
use Rattle.node_rules.specs.Calls.{Outcome, outcome}
use Rattle.node_rules.specs.Histories.{out_after}
use Rattle.node.specs.Lent.{board_of}
use Rattle.slot_records.specs.declared.Record.{Record}

abbrev pub node_in : Record → Node
node_in r = record { id = r.id; state = r.state; automatic = r.automatic }

-- A record with its two fields set: the state, and the bytes that were written.
abbrev pub started : Record → ℕ → ℕ → Record
started r state written = record { id = r.id; state = state; automatic = r.automatic; written = written }

-- A refusal leaves the record as it was.
abbrev pub record_after : Record → Outcome → Record
record_after r o = cond (eqb o.refusal 0) (started r o.next.node.state (length (all_bytes o.sent))) r

-- What the call leaves: its refusal or 0, the record, the slots and the output.
pub record RecordResult : Type 0 where
  pub refusal : ℕ
  pub own : Record
  pub slots : Slots
  pub out : List ℕ

abbrev pub record_result : ℕ → Record → Slots → List ℕ → RecordResult
record_result refusal r slots out = record { refusal = refusal; own = r; slots = slots; out = out }

-- The same of what the rules give.
abbrev pub record_result_by : Record → List ℕ → Outcome → RecordResult
record_result_by r out o = record_result o.refusal (record_after r o) o.next.slots (out_after out o)

abbrev pub record_result_of : Record → Slots → List ℕ → RecordResult
record_result_of r slots out = record_result_by r out (outcome (board_of (node_in r) slots) Initialise [] (length out))

-- ---- both for a clause, with the output as the call left it (`out.new`) and as it was lent (`out.old`)

abbrev pub leaves_record : ℕ → Record → Slots → List ℕ → RecordResult
leaves_record refusal r slots out = record_result refusal r slots out

abbrev pub initialises_record : Record → Slots → List ℕ → RecordResult
initialises_record r slots out = record_result_of r slots out
