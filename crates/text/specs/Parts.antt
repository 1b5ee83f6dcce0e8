-- A long text in parts: the last is the first that is not full.
use Rattle.std.specs.Prelude.{ℕ, zero, suc, ◌+◌, cond, List, [], ◌++◌, ltb, length, take, drop}

abbrev pub part_size : ℕ
part_size = 65536

-- The part from a byte on.
unfoldable pub part_from : ℕ → List ℕ → List ℕ
part_from skip text = take part_size (drop skip text)

-- At most n parts from a byte on, one after another, and none after the last.
unfoldable pub parts_from : ℕ → ℕ → List ℕ → List ℕ
parts_from zero skip text = []
parts_from (suc n) skip text =
    part_from skip text ++ cond (ltb (length (part_from skip text)) part_size) [] (parts_from n (skip + part_size) text)
