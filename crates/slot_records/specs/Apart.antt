-- A list of slot records as the node's four lists (document 01, "Matching forms to places": "the slots as a lent list of slot records").
use Rattle.std.specs.Prelude.{ℕ, List, map}
use Rattle.node_rules.specs.Boards.{Slots}
use Rattle.node.specs.Lent.{slots_of}
use Rattle.slot_records.specs.declared.Slot.{Slot}

abbrev pub roles_of : List Slot → List ℕ
roles_of ss = map (λ s. s.role) ss

abbrev pub events_of : List Slot → List ℕ
events_of ss = map (λ s. s.event) ss

abbrev pub statuses_of : List Slot → List ℕ
statuses_of ss = map (λ s. s.status) ss

abbrev pub marks_of : List Slot → List ℕ
marks_of ss = map (λ s. s.mark) ss

abbrev pub apart : List Slot → Slots
apart ss = slots_of (roles_of ss) (events_of ss) (statuses_of ss) (marks_of ss)
