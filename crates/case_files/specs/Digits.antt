-- Hexadecimal digits in lower case.
use Rattle.std.specs.Prelude.{ℕ, ◌-◌, Option, Some, None, ◌&&◌, leb, if◌then◌else◌}

-- The value of a digit.
abbrev pub digit : ℕ → Option ℕ
digit b = if leb 48 b && leb b 57 then Some (b - 48) else (if leb 97 b && leb b 102 then Some (b - 87) else None)
