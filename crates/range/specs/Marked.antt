-- The ranges marked P in document 01: the number, its first event and its last.
use Rattle.std.specs.Prelude.{ℕ, List, [], ◌∷◌}
use Rattle.range.specs.Range.{block_of, last}

pub record Row : Type 0 where
  pub number : ℕ
  pub first : ℕ
  pub last : ℕ

abbrev row : ℕ → ℕ → ℕ → Row
row r f l = record { number = r; first = f; last = l }

-- The row that the definition of a range gives for a number.
unfoldable pub row_of : ℕ → Row
row_of r = row r (block_of r).start (last (block_of r))

unfoldable pub marked : List Row
marked =
    row 0x1 0x0 0x1
    ∷ row 0x2 0x2 0x3
    ∷ row 0x3 0x0 0x3
    ∷ row 0x4 0x4 0x7
    ∷ row 0x5 0x4 0x5
    ∷ row 0xABCDEF 0xABCDE0 0xABCDEF
    ∷ row 0xABCDE0 0xABCDE0 0xABCDFF
    ∷ row 0xFEDCBFFF 0xFEDC8000 0xFEDCBFFF
    ∷ row 0x123456780001FFFF 0x1234567800000000 0x123456780001FFFF
    ∷ row 0x12345678FFFE0000 0x12345678FFFE0000 0x12345678FFFFFFFF
    ∷ row 0x7FFFFFFFFFFFFFFF 0x0 0x7FFFFFFFFFFFFFFF
    ∷ row 0x8000000000000000 0x8000000000000000 0xFFFFFFFFFFFFFFFF
    ∷ row 0x0 0x0 0xFFFFFFFFFFFFFFFF
    ∷ []
