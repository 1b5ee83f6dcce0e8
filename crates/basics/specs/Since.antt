-- Since: what document 01 says of histories ("live", "opened", "since its last restart").
use Rattle.std.specs.Prelude.{◌≡◌, List, [], ◌∷◌, ◌++◌}

-- Nothing in a list ends it.
pub data Never {A : Type 0} (ends : A → Type 0) : List A → Type 0 where
  nothing : Never ends []
  nor : {s : A} {h : List A} → (ends s → ⊥) → Never ends h → Never ends (s ∷ h)

-- Somewhere a step starts it, given those before, and none after that one ends it.
pub record Since {A : Type 0} (starts : List A → A → Type 0) (ends : A → Type 0) (h : List A) : Type 0 where
  pub before : List A
  pub by : A
  pub later : List A
  pub split : h ≡ before ++ (by ∷ later)
  pub started : starts before by
  pub lasting : Never ends later
