-- What a call of the code leaves: its answer in numbers, the slots and the output.
use Rattle.std.specs.Prelude.{ℕ, List, length}
use Rattle.basics.specs.Refusals.{first_of, answered}
use Rattle.basics.specs.Sets.{set_of}
use Rattle.node_rules.specs.declared.Node.{Node}
use Rattle.node_rules.specs.declared.Call.{Call}
use Rattle.node_rules.specs.Boards.{Slots, Board}
use Rattle.node_rules.specs.Sending.{all_bytes}
use Rattle.node_rules.specs.Calls.{Outcome, refusing, accepted, call_tests, outcome}
use Rattle.node_rules.specs.Histories.{out_after}
use Rattle.node.specs.declared.Answer.{Answer}
use Rattle.node.specs.Lent.{board_of}

pub record Result : Type 0 where
  pub answer : Answer
  pub slots : Slots
  pub out : List ℕ

abbrev pub result : Answer → Slots → List ℕ → Result
result answer slots out = record { answer = answer; slots = slots; out = out }

abbrev pub answer : ℕ → ℕ → ℕ → ℕ → Node → Answer
answer refusal messages bytes matches node = record { refusal = refusal; messages = messages; bytes = bytes; matches = matches; node = node }

abbrev pub answer_of : Outcome → Answer
answer_of o = answer o.refusal (length o.sent) (length (all_bytes o.sent)) (set_of 64 o.matches) o.next.node

-- The same of what the rules give, for the output that was lent.
abbrev pub result_by : List ℕ → Outcome → Result
result_by out o = result (answer_of o) o.next.slots (out_after out o)

-- What a call leaves by the rules, from a record, the bytes received, the slots and the output.
abbrev pub result_of : Node → Call → List ℕ → Slots → List ℕ → Result
result_of node call bytes slots out = result_by out (outcome (board_of node slots) call bytes (length out))

-- The same of a board that has passed the tests of every call: those of the call itself are left.
abbrev pub called : Board → Call → List ℕ → List ℕ → Result
called b call bytes out = result_by out (answered (λ o. o) (refusing b) (first_of (call_tests b call bytes (length out))) (accepted b call bytes))

-- ---- both for a clause, with the output as the call left it (`out.new`) and as it was lent (`out.old`)

abbrev pub leaves : Answer → Slots → List ℕ → Result
leaves answer slots out = result answer slots out

abbrev pub performed : Node → Call → List ℕ → Slots → List ℕ → Result
performed node call bytes slots out = result_of node call bytes slots out
