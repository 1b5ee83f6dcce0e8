-- Bits, counted from the lowest.
use Rattle.std.specs.Prelude.{ℕ, ◌/◌, ◌%◌, ◌^◌}

-- Bit i of n.
abbrev pub bit : ℕ → ℕ → ℕ
bit i n = n / 2 ^ i % 2
