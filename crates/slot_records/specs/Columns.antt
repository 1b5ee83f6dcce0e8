-- What the parts of the code work on: the first 65 slots in four lists of 65 places.
use Rattle.std.specs.Prelude.{ℕ, zero, suc, ◌≡◌, cond, List, ltb, length, get_or, set, replicate, take}
use Rattle.node_rules.specs.Boards.{Slots}
use Rattle.node.specs.Lent.{slots_of}
use Rattle.slot_records.specs.declared.Slot.{Slot}
use Rattle.slot_records.specs.declared.columns.Columns.{Columns}

abbrev pub places : ℕ
places = 65

-- How many of the places so many slots use.
abbrev pub few : ℕ → ℕ
few n = cond (ltb n places) n places

abbrev pub columns_of : ℕ → List ℕ → List ℕ → List ℕ → List ℕ → Columns
columns_of count roles events statuses marks = record { count = count; roles = roles; events = events; statuses = statuses; marks = marks }

abbrev pub blank_of : ℕ → Columns
blank_of count = columns_of count (replicate places 0) (replicate places 0) (replicate places 0) (replicate places 0)

-- Slot i in its place; beyond the places nothing changes.
abbrev pub placed : Columns → ℕ → Slot → Columns
placed c i s = columns_of c.count (set c.roles i s.role) (set c.events i s.event) (set c.statuses i s.status) (set c.marks i s.mark)

abbrev pub slot_at : Columns → ℕ → Slot
slot_at c i = record { role = get_or c.roles i 0; event = get_or c.events i 0; status = get_or c.statuses i 0; mark = get_or c.marks i 0 }

-- Slot i of the columns; beyond the places it is as it was.
abbrev pub back : Columns → ℕ → Slot → Slot
back c i s = cond (ltb i places) (slot_at c i) s

-- The places that are used.
abbrev pub used : Columns → Slots
used c = slots_of (take (few c.count) c.roles) (take (few c.count) c.events) (take (few c.count) c.statuses) (take (few c.count) c.marks)

-- Columns of so many slots, with every place there.
pub record Fits (n : ℕ) (c : Columns) : Type 0 where
  pub count : c.count ≡ n
  pub roles : length c.roles ≡ places
  pub events : length c.events ≡ places
  pub statuses : length c.statuses ≡ places
  pub marks : length c.marks ≡ places

-- ---- a list of records, slot by slot

abbrev pub no_slot : Slot
no_slot = record { role = 0; event = 0; status = 0; mark = 0 }

-- The columns once the first k slots are placed.
unfoldable pub gathered : List Slot → ℕ → Columns
gathered ss zero = blank_of (length ss)
gathered ss (suc k) = placed (gathered ss k) k (get_or ss k no_slot)

-- The slots once the first k are put back.
unfoldable pub scattered : List Slot → Columns → ℕ → List Slot
scattered ss c zero = ss
scattered ss c (suc k) = set (scattered ss c k) k (back c k (get_or (scattered ss c k) k no_slot))
