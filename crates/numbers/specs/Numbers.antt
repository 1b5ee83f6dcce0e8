-- Numbers in bytes, high byte first (document 01, "Messages" and "Trial program").
use Rattle.std.specs.Prelude.{ℕ, zero, suc, ◌+◌, ◌*◌, ◌/◌, ◌%◌, ◌<◌, cond, List, [], ◌∷◌, ◌++◌, leb, length, get_or, take, drop}

-- The number that the first w bytes spell.
unfoldable pub spelled : List ℕ → ℕ → ℕ
spelled s zero = 0
spelled s (suc w) = spelled s w * 256 + get_or s w 0

-- The number that a byte string spells.
abbrev pub number_in : List ℕ → ℕ
number_in s = spelled s (length s)

-- The w low bytes of a number.
unfoldable pub bytes_of : ℕ → ℕ → List ℕ
bytes_of zero x = []
bytes_of (suc w) x = bytes_of w (x / 256) ++ (x % 256 ∷ [])

-- A list of bytes, as every lent `[u8]` is.
abbrev pub Bytes : List ℕ → Type 0
Bytes s = (i : ℕ) → get_or s i 0 < 256

-- ---- in a longer byte string

-- The number in the w bytes from a place on, or in as many of them as there are.
abbrev pub number_at : List ℕ → ℕ → ℕ → ℕ
number_at s at w = number_in (take w (drop at s))

-- A 64-bit number has at most eight bytes.
abbrev pub at_most_eight : ℕ → ℕ
at_most_eight w = cond (leb w 8) w 8

-- Bytes put in from a place on.
abbrev pub pasted : ℕ → List ℕ → List ℕ → List ℕ
pasted at bytes out = take at out ++ (bytes ++ drop (at + length bytes) out)

-- The w low bytes of a number put in from a place on, where there is room for all of them.
abbrev pub number_put : ℕ → ℕ → ℕ → List ℕ → List ℕ
number_put n w at out = cond (leb (at + w) (length out)) (pasted at (bytes_of w n) out) out
