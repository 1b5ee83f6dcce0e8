-- What a message says to a board, which slots answer and which it matches (document 01, "Node": "Receive"; 001 sections 5 and 6).
use Rattle.std.specs.Prelude.{ℕ, zero, suc, Bool, true, false, cond, not, ◌&&◌, List, [], ◌∷◌, ◌++◌, eqb, ltb, length, get_or, Option, Some, None}
use Rattle.range.specs.declared.Block.{Block}
use Rattle.range.specs.Range.{in_block}
use Rattle.basics.specs.Sets.{any_below}
use Rattle.message.specs.declared.Message.{Message}
use Rattle.message.specs.declared.Saying.{Saying}
use Rattle.message.specs.declared.Saying.TheVariants.{Report, Announcement, Restart, Inquiry, InquiryForAll, Learn, Nothing}
use Rattle.message.specs.Saying.{consumer, said_by}
use Rattle.node_rules.specs.declared.Node.{Node}
use Rattle.node_rules.specs.Boards.{Board, initialized, count, has_at}

-- ---- what is said to this node

-- Identify Events, global or to this node.
abbrev pub is_for : ℕ → Option ℕ → Bool
is_for id (Some destination) = eqb destination id
is_for id None = true

abbrev pub heard_as : ℕ → Saying → Saying
heard_as id (Report e) = Report e
heard_as id (Announcement b) = Announcement b
heard_as id Restart = Restart
heard_as id (Inquiry role e) = Inquiry role e
heard_as id (InquiryForAll destination) = cond (is_for id destination) (InquiryForAll destination) Nothing
heard_as id (Learn e) = Learn e
heard_as id Nothing = Nothing

-- Not Initialized: no replies, no matches.
unfoldable pub heard_by : Node → Message → Saying
heard_by n m = cond (eqb n.state initialized) (heard_as n.id (said_by m)) Nothing

-- ---- which slots answer

-- Identify Producer or Consumer asks for the slots of its event, automatic or not; Identify Events for all outside the automatic block.
abbrev pub asks_at : Block → List ℕ → List ℕ → Saying → ℕ → Bool
asks_at automatic roles events (Report e) i = false
asks_at automatic roles events (Announcement b) i = false
asks_at automatic roles events Restart i = false
asks_at automatic roles events (Inquiry role e) i = has_at roles events role e i
asks_at automatic roles events (InquiryForAll destination) i = not (in_block automatic (get_or events i 0))
asks_at automatic roles events (Learn e) i = false
asks_at automatic roles events Nothing i = false

-- The lowest slot of its role and Event ID.
abbrev pub lowest_at : List ℕ → List ℕ → ℕ → Bool
lowest_at roles events i = not (any_below i (has_at roles events (get_or roles i 0) (get_or events i 0)))

-- One reply for each different role and Event ID, by lowest slot.
abbrev pub answers_at : Block → List ℕ → List ℕ → Saying → ℕ → Bool
answers_at automatic roles events s i = asks_at automatic roles events s i && lowest_at roles events i

-- The slots below n that pass, in slot order.
unfoldable pub chosen : ℕ → (ℕ → Bool) → List ℕ
chosen zero test = []
chosen (suc n) test = chosen n test ++ cond (test n) (n ∷ []) []

unfoldable pub answering : Board → Saying → List ℕ
answering b s = chosen (count b.slots) (answers_at b.node.automatic b.slots.roles b.slots.events s)

-- ---- which slots it matches

-- An event report answers the set of the consumer slots with that event. Only an event report sets a bit.
abbrev pub matches_at : List ℕ → List ℕ → Saying → ℕ → Bool
matches_at roles events (Report e) i = ltb i (length roles) && has_at roles events consumer e i
matches_at roles events (Announcement b) i = false
matches_at roles events Restart i = false
matches_at roles events (Inquiry role e) i = false
matches_at roles events (InquiryForAll destination) i = false
matches_at roles events (Learn e) i = false
matches_at roles events Nothing i = false
