-- A box: a gate with the index beside its table (document 02, W6).
use Rattle.std.specs.Prelude.{ℕ, ◌≡◌, Bool, cond, not, ◌&&◌, List, [], ◌∷◌, eqb}
use Rattle.gateway_rules.specs.declared.Line.{Line}
use Rattle.gateway_rules.specs.State.{Gate}
use Rattle.gateway_rules.specs.Step.{Outcome, refusing, start, step}
use Rattle.gateway_rules.specs.History.{Entry}
use Rattle.index_rules.specs.Index.{Index, index_of}
use Rattle.index_rules.specs.Agreeing.{same_numbers}

pub record Box : Type 0 where
  pub gate : Gate
  pub index : Index

-- The index is that of its table.
abbrev pub Right : Box → Type 0
Right b = b.index ≡ index_of b.gate.lines

-- An index that disagrees with its table.
unfoldable pub strays : Index → List Line → Bool
strays x lines = not (same_numbers x.order (index_of lines).order && same_numbers x.sets (index_of lines).sets)

-- "Refusal 7 now also covers an index that disagrees with its table." Else the box does what its gate does.
abbrev pub box_step : Box → ℕ → List ℕ → Outcome
box_step b q bytes = cond (strays b.index b.gate.lines) (refusing b.gate 7) (step b.gate q bytes)

-- A refusal keeps the index; what is accepted leaves the index of its table.
abbrev pub index_after : Index → Outcome → Index
index_after x o = cond (eqb o.refusal 0) (index_of o.next.lines) x

abbrev pub box_next : Box → ℕ → List ℕ → Box
box_next b q bytes = record { gate = (box_step b q bytes).next; index = index_after b.index (box_step b q bytes) }

-- A box as it is started, with the index of no lines.
abbrev pub started_box : ℕ → ℕ → Box
started_box ports r = record { gate = (start ports r).next; index = index_of [] }

-- The box that a history leaves.
abbrev pub box_after : Box → List Entry → Box
box_after b [] = b
box_after b (e ∷ h) = box_after (box_next b e.port e.bytes) h
