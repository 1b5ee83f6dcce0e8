-- A trial file: a contents table, then the bodies in order with no gap. Numbers stand high byte first (document 01, "Trial program").
use Rattle.std.specs.Prelude.{ℕ, zero, suc, ◌+◌, ◌*◌, Bool, ◌&&◌, List, eqb, leb, length, get_or, take, drop}
use Rattle.numbers.specs.Numbers.{number_at}

-- A 2-byte count n, then n entries of port (1 byte) and length (2 bytes).
abbrev pub entry_count : List ℕ → ℕ
entry_count s = number_at s 0 2

abbrev pub entry_at : ℕ → ℕ
entry_at i = 2 + i * 3

abbrev pub port_in : List ℕ → ℕ → ℕ
port_in s i = get_or s (entry_at i) 0

abbrev pub length_in : List ℕ → ℕ → ℕ
length_in s i = number_at s (entry_at i + 1) 2

-- Where the body of an entry stands.
unfoldable pub body_at : List ℕ → ℕ → ℕ
body_at s zero = entry_at (entry_count s)
body_at s (suc i) = body_at s i + length_in s i

unfoldable pub body_in : List ℕ → ℕ → List ℕ
body_in s i = take (length_in s i) (drop (body_at s i) s)

-- At most 65,536 bytes and 1,000 entries, and no other total length.
unfoldable pub good_file : List ℕ → Bool
good_file s =
    leb (length s) 65536
    && (leb 2 (length s) && (leb (entry_count s) 1000 && (leb (entry_at (entry_count s)) (length s) && eqb (body_at s (entry_count s)) (length s))))
