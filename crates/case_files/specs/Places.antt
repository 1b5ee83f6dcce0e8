-- The places that a command writes to.
use Rattle.std.specs.Prelude.{ℕ, ◌-◌, ◌%◌, Bool, not, ◌&&◌, eqb, leb}

abbrev pub is_written : ℕ → ℕ → ℕ → ℕ → Bool
is_written first last stride place =
    leb first place && leb place last && not (eqb stride 0) && eqb ((place - first) % stride) 0
