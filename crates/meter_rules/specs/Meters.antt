-- The meter of a port: five counts and a mark (document 02, W7).
use Rattle.std.specs.Prelude.{ℕ, zero, suc, ◌+◌, Bool, false, cond, ◌&&◌, leb, ltb}

-- Messages accepted, messages refused, event reports in, reports sent to it, reports held back from it.
pub record Meter : Type 0 where
  pub accepted : ℕ
  pub refused : ℕ
  pub reports : ℕ
  pub sent : ℕ
  pub held : ℕ
  pub marked : Bool

-- A meter for each port.
abbrev pub Meters : Type 0
Meters = ℕ → Meter

-- "Counted up from zero."
abbrev pub at_zero : Meters
at_zero p = record { accepted = 0; refused = 0; reports = 0; sent = 0; held = 0; marked = false }

-- "Counts are 32 bits."
abbrev pub most : ℕ
most = 4294967295

-- One more where it happened; "one that would pass 4,294,967,295 stays there".
abbrev pub up : Bool → ℕ → ℕ
up happened n = cond (happened && ltb n most) (n + 1) n

-- "And marks the meter."
abbrev pub passes : Bool → ℕ → Bool
passes happened n = happened && leb most n

-- Over all ports.
abbrev pub sum_below : ℕ → (ℕ → ℕ) → ℕ
sum_below zero f = 0
sum_below (suc n) f = f n + sum_below n f
