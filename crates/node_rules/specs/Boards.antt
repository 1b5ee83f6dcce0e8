-- A node and its slots (document 01, "Node": "A slot has ..", "Out of bounds").
use Rattle.std.specs.Prelude.{ℕ, ◌≤◌, Bool, not, ◌&&◌, ◌||◌, cond, List, eqb, ltb, length, get_or}
use Rattle.range.specs.declared.Block.{Block}
use Rattle.range.specs.Range.{has_number, in_block}
use Rattle.basics.specs.Lists.{each}
use Rattle.basics.specs.Sets.{any_below}
use Rattle.message.specs.Saying.{consumer}
use Rattle.node_rules.specs.declared.Node.{Node}

-- A role, an Event ID, a status and an Advertised mark for each slot, in four lists.
pub record Slots : Type 0 where
  pub roles : List ℕ
  pub events : List ℕ
  pub statuses : List ℕ
  pub marks : List ℕ

pub record Board : Type 0 where
  pub node : Node
  pub slots : Slots

-- ---- the numbers that stand for them

abbrev pub valid : ℕ
valid = 0

abbrev pub invalid : ℕ
invalid = 1

abbrev pub unknown : ℕ
unknown = 2

abbrev pub unadvertised : ℕ
unadvertised = 0

abbrev pub advertised : ℕ
advertised = 1

abbrev pub not_initialized : ℕ
not_initialized = 0

abbrev pub initialized : ℕ
initialized = 1

-- ---- one slot

abbrev pub count : Slots → ℕ
count s = length s.roles

abbrev pub role_of : Slots → ℕ → ℕ
role_of s i = get_or s.roles i 0

abbrev pub event_of : Slots → ℕ → ℕ
event_of s i = get_or s.events i 0

abbrev pub status_of : Slots → ℕ → ℕ
status_of s i = get_or s.statuses i 0

abbrev pub mark_of : Slots → ℕ → ℕ
mark_of s i = get_or s.marks i 0

-- The state and every mark are one of the two numbers that they can be.
pub record Binary (b : Board) : Type 0 where
  pub state : b.node.state ≤ initialized
  pub marks : (i : ℕ) → mark_of b.slots i ≤ advertised

-- Slot i has a role and an Event ID.
abbrev pub has_at : List ℕ → List ℕ → ℕ → ℕ → ℕ → Bool
has_at roles events role event i = eqb (get_or roles i 0) role && eqb (get_or events i 0) event

-- ---- out of bounds

-- Slot lists of unequal length, or over 64 slots.
abbrev pub bad_lengths : ℕ → ℕ → ℕ → ℕ → Bool
bad_lengths roles events statuses marks =
    not (eqb events roles) || (not (eqb statuses roles) || (not (eqb marks roles) || ltb 64 roles))

-- A number that is no state; an automatic block as barred for the gateway, which is one with no range number.
abbrev pub bad_record : Node → Bool
bad_record n = ltb initialized n.state || not (has_number n.automatic)

-- A number that is no role, status or mark; an Advertised slot in a node not Initialized.
abbrev pub bad_slot : ℕ → ℕ → ℕ → ℕ → Bool
bad_slot state role status mark =
    ltb consumer role || (ltb unknown status || (ltb advertised mark || (eqb mark advertised && eqb state not_initialized)))

abbrev pub bad_slots : ℕ → Slots → Bool
bad_slots state s = any_below (count s) (λ i. bad_slot state (role_of s i) (status_of s i) (mark_of s i))

unfoldable pub out_of_bounds : Board → Bool
out_of_bounds b =
    bad_lengths (length b.slots.roles) (length b.slots.events) (length b.slots.statuses) (length b.slots.marks)
    || (bad_record b.node || bad_slots b.node.state b.slots)

-- ---- marks

abbrev pub with_marks : Slots → List ℕ → Slots
with_marks s marks = record { roles = s.roles; events = s.events; statuses = s.statuses; marks = marks }

-- Every slot of the role and Event ID of a slot becomes Advertised.
abbrev pub advertised_marks : List ℕ → List ℕ → ℕ → List ℕ → List ℕ
advertised_marks roles events slot marks =
    each (length marks) (λ i. cond (has_at roles events (get_or roles slot 0) (get_or events slot 0) i) advertised (get_or marks i 0))

abbrev pub advertise : Slots → ℕ → Slots
advertise s i = with_marks s (advertised_marks s.roles s.events i s.marks)

-- Slots in the automatic block become Advertised, all others Unadvertised.
abbrev pub restarted_marks : Block → List ℕ → List ℕ → List ℕ
restarted_marks automatic events marks = each (length marks) (λ i. cond (in_block automatic (get_or events i 0)) advertised unadvertised)
