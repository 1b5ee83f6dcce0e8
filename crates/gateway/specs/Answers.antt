-- What the code's answer says: the refusal, the set of ports as a number, and the state without the places past the count.
use Rattle.std.specs.Prelude.{ℕ, ◌≡◌, Bool, true, false, cond, not, ◌||◌, List, Option, None, Some, eqb, length}
use Rattle.range.specs.declared.Block.{Block}
use Rattle.range.specs.Range.{is_block, in_block}
use Rattle.basics.specs.Lists.{any}
use Rattle.basics.specs.Sets.{set_of, in_set}
use Rattle.message.specs.declared.Saying.{Saying}
use Rattle.message.specs.declared.Saying.TheVariants.{Report, Announcement, Restart, Inquiry, InquiryForAll, Learn, Nothing}
use Rattle.gateway_rules.specs.declared.Line.{Line}
use Rattle.gateway_rules.specs.State.{Gate, full, out_of_bounds}
use Rattle.gateway_rules.specs.Step.{Outcome, covered, held_by, holds_some, line_holds, of_node, wanted_at, refusing}
use Rattle.index_rules.specs.Index.{Index}
use Rattle.index_rules.specs.Boxes.{strays, box_step, index_after}
use Rattle.gateway.specs.declared.Answer.{Answer}
use Rattle.gateway.specs.declared.LentAnswer.{LentAnswer}
use Rattle.gateway.specs.declared.state.Head.{Head}
use Rattle.gateway.specs.declared.state.Gateway.{Gateway}
use Rattle.gateway.specs.declared.lines.Gone.{Gone}
use Rattle.gateway.specs.declared.lines.Gone.TheVariants.{OfNode, HeldBy}
use Rattle.gateway.specs.declared.lines.Standing.{Standing}
use Rattle.gateway.specs.declared.lines.Standing.TheVariants.{Covered, Holding, New}
use Rattle.gateway.specs.State.{Lists, IndexLists, lines_in, gate_in, gate_of, index_in, box_in, box_of, head_with, no_block}

pub record Seen : Type 0 where
  pub refusal : ℕ
  pub sent : ℕ
  pub gate : Gate
  pub index : Index

abbrev pub seen_in : Answer → Seen
seen_in a = record { refusal = a.refusal; sent = a.sent; gate = gate_of a.gateway; index = (box_of a.gateway).index }

-- The same of what the rules give: a refusal leaves the index that is given, what is accepted that of its lines.
abbrev pub seen_of : Index → Outcome → Seen
seen_of x o = record { refusal = o.refusal; sent = set_of 8 o.to; gate = o.next; index = index_after x o }

-- A refusal leaves the whole state as it was, the places past the count too (document 01, "Refusal numbers": state and slots stay as before).
abbrev pub RefusalKeeps : Gateway → Answer → Type 0
RefusalKeeps g a = (a.refusal ≡ 0 → ⊥) → a.gateway ≡ g

-- The same of the box in one place, beside what it answers.
abbrev pub seen_held : LentAnswer → Gateway → Seen
seen_held a g = record { refusal = a.refusal; sent = a.sent; gate = gate_of g; index = (box_of g).index }

-- ---- the same on lent lists

abbrev pub seen_lent : Head → LentAnswer → Lists → IndexLists → Seen
seen_lent h a t x = record { refusal = a.refusal; sent = a.sent; gate = gate_in (head_with h a.marks a.count) t; index = index_in a.count x }

abbrev pub bad_lengths : ℕ → ℕ → ℕ → ℕ → Bool
bad_lengths nodes starts ports sizes = not (eqb nodes full) || (not (eqb starts full) || (not (eqb ports full) || not (eqb sizes full)))

-- The order has 256 places, and there are nine sets.
abbrev pub bad_index_lengths : ℕ → ℕ → Bool
bad_index_lengths order sets = not (eqb order full) || not (eqb sets 9)

abbrev pub bad_lists : Lists → IndexLists → Bool
bad_lists t x = bad_lengths (length t.nodes) (length t.starts) (length t.ports) (length t.sizes) || bad_index_lengths (length x.order) (length x.sets)

-- A list of another length is 7, before all else.
abbrev pub lent_step : Head → Lists → IndexLists → ℕ → List ℕ → Outcome
lent_step h t x q bytes = cond (bad_lists t x) (refusing (gate_in h t) 7) (box_step (box_in h t x) q bytes)

abbrev pub LentRefusalKeeps : Head → Lists → IndexLists → LentAnswer → Lists → IndexLists → Type 0
LentRefusalKeeps h before x a after y = (a.refusal ≡ 0 → ⊥) → (a.marks ≡ h.marks) × (a.count ≡ h.count) × (after ≡ before) × (y ≡ x)

-- All that is 7 of a state on lent lists: the lengths, the bounds, the index.
abbrev pub outside : Head → Lists → IndexLists → Bool
outside h t x = bad_lists t x || (out_of_bounds (gate_in h t) || strays (index_in h.count x) (lines_in h.count t))

-- ---- what the parts of the code work on

-- The ports that want what is said, as a number.
abbrev pub wanted_by : Gate → Saying → ℕ
wanted_by g s = set_of 8 (λ p. wanted_at g p s)

-- The event that the lines are asked for: that of a report that is not automatic. All else every port wants.
abbrev pub looked_up_in : Block → Saying → Option ℕ
looked_up_in automatic (Report e) = cond (in_block automatic e) None (Some e)
looked_up_in automatic (Announcement b) = None
looked_up_in automatic Restart = None
looked_up_in automatic (Inquiry role e) = None
looked_up_in automatic (InquiryForAll destination) = None
looked_up_in automatic (Learn e) = None
looked_up_in automatic Nothing = None

-- The ports of a set, and those that have a line that holds the event.
abbrev pub holding : ℕ → ℕ → List Line → ℕ
holding set e lines = set_of 8 (λ p. in_set set p || any (line_holds p e) lines)

-- The ports that want what is said, once it is known what is looked up.
abbrev pub wanted_of : ℕ → List Line → Option ℕ → ℕ
wanted_of marks lines None = 255
wanted_of marks lines (Some e) = holding marks e lines

-- What is announced is a block.
abbrev pub AnnouncesBlock : Saying → Type 0
AnnouncesBlock s = (b : Block) → s ≡ Announcement b → is_block b ≡ true

-- How a line stands to those of a table: inside one of them, else holding some, else new (document 02, W4).
abbrev pub stands_as : List Line → Line → Standing
stands_as lines l = cond (covered lines l) Covered (cond (holds_some lines l) Holding New)

-- Which lines are taken out: those of a node at its restart, or those that an announced line holds.
abbrev pub goes_by : Gone → Line → Bool
goes_by (OfNode node) = of_node node
goes_by (HeldBy l) = held_by l

-- Where lines go by their blocks, theirs and that of the line which holds them are blocks.
abbrev pub Comparable : Gone → List Line → Type 0
Comparable (OfNode node) lines = Unit {0}
Comparable (HeldBy l) lines = (is_block l.block ≡ true) × (any no_block lines ≡ false)
