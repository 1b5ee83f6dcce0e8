-- What asking the box why a report is sent or held back answers (document 02, W1), in that document's numbers.
use Rattle.std.specs.Prelude.{ℕ, cond, ◌||◌, List, [], ◌∷◌, Result, Ok, Err}
use Rattle.basics.specs.Refusals.{Told, told, refused, refusal_number}
use Rattle.gateway_rules.specs.Reasons.{Numbered, reason_told, why_told}
use Rattle.index_rules.specs.Boxes.{Box, strays}
use Rattle.basics.specs.declared.Refusal.{Refusal}
use Rattle.gateway_rules.specs.declared.Reason.{Reason}
use Rattle.gateway.specs.declared.state.Head.{Head}
use Rattle.gateway.specs.State.{Lists, IndexLists, lines_in, gate_in, index_in}
use Rattle.gateway.specs.Answers.{bad_lists}

-- 0 and the reason's number and values, or the refusal's number and nothing beside it.
abbrev pub answer_told : Result Reason Refusal → Told (List Numbered)
answer_told (Ok r) = told (reason_told r ∷ [])
answer_told (Err r) = refused (refusal_number r) []

-- Of a box: an index that disagrees with its table is 7 before all else.
abbrev pub box_why : Box → ℕ → ℕ → List ℕ → Told (List Numbered)
box_why b q p bytes = cond (strays b.index b.gate.lines) (refused 7 []) (why_told b.gate q p bytes)

-- On lent lists: one of another length is 7 before all else, and so is an index that disagrees with its table.
abbrev pub lent_why : Head → Lists → IndexLists → ℕ → ℕ → List ℕ → Told (List Numbered)
lent_why h t x q p bytes = cond (bad_lists t x || strays (index_in h.count x) (lines_in h.count t)) (refused 7 []) (why_told (gate_in h t) q p bytes)
