-- Event ID ranges, in plain arithmetic (001 section 4, "Event ID Range"; document 01, "Ranges").
use Rattle.std.specs.Prelude.{ℕ, zero, suc, ◌+◌, ◌-◌, ◌*◌, ◌/◌, ◌%◌, ◌^◌, ◌≡◌, Bool, true, cond, ◌&&◌, not, leb, eqb}
use Rattle.numbers.specs.Bits.{bit}
use Rattle.range.specs.declared.Block.{Block}

-- "The adjacent identical bits": how many of the w lowest bits of n equal b, counted from the lowest up to the first that does not.
unfoldable pub bits_equal : ℕ → ℕ → ℕ → ℕ
bits_equal b zero n = zero
bits_equal b (suc w) n = cond (eqb (n % 2) b) (suc (bits_equal b w (n / 2))) zero

-- k of a range number: the run of bits equal to the lowest one.
unfoldable pub run : ℕ → ℕ
run r = bits_equal (r % 2) 64 r

-- "The remaining upper bits determine the range prefix": E lies in the range R where the two agree on all bits above the run.
unfoldable pub in_range : ℕ → ℕ → Bool
in_range r e = eqb (e / 2 ^ run r) (r / 2 ^ run r)

-- A block is 2^k numbers starting at a multiple of 2^k, k from 0 to 64.
unfoldable pub is_block : Block → Bool
is_block b = leb b.k 64 && eqb (b.start % 2 ^ b.k) 0

-- The last number of a block; the first is its start.
abbrev pub last : Block → ℕ
last b = b.start + (2 ^ b.k - 1)

-- Whether an event is one of a block's numbers.
unfoldable pub in_block : Block → ℕ → Bool
in_block b e = leb b.start e && leb e (last b)

-- A single event is the block with k = 0.
abbrev pub single : ℕ → Block
single e = record { start = e; k = 0 }

-- The block of a range number: the bits above the run, and zeros below them.
unfoldable pub block_of : ℕ → Block
block_of r = record { start = r / 2 ^ run r * 2 ^ run r; k = run r }

-- The automatically-routed set, given as a range number at start: the house default.
abbrev pub house : ℕ
house = 0x010000000000FFFF

-- A block with k = 0 has no range number.
unfoldable pub has_number : Block → Bool
has_number b = not (eqb b.k 0) && is_block b

-- To write a block: if bit k of its start is 0 the low k bits become ones, else they stay zeros.
-- At k = 64 the start is 0, and so is its bit 64: the whole space is written as all ones.
unfoldable pub number_of : Block → ℕ
number_of b = cond (eqb (bit b.k b.start) 0) (last b) b.start

-- Whether one block is inside another, or equal to it: it begins no earlier and ends no later.
unfoldable pub inside : Block → Block → Bool
inside a b = leb b.start a.start && leb (last a) (last b)

-- Every event of the first is one of the second's; no event is one of both.
abbrev pub Inside : Block → Block → Type 0
Inside a b = (e : ℕ) → in_block a e ≡ true → in_block b e ≡ true

abbrev pub Apart : Block → Block → Type 0
Apart a b = (e : ℕ) → in_block a e ≡ true → in_block b e ≡ true → ⊥
