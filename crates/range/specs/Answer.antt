-- What each answer says in document 01's numbers: the refusal's number, 0 where there is none, and the value, 0 or no beside a refusal.
use Rattle.std.specs.Prelude.{ℕ, ◌%◌, ◌^◌, ◌<◌, ◌≡◌, ◌⊎◌, Bool, false, cond}
use Rattle.basics.specs.Refusals.{Told, told, refused}
use Rattle.range.specs.declared.Block.{Block}
use Rattle.range.specs.Range.{is_block, in_block, has_number, number_of}

-- Refusal 14: no range number; in the other calls, a block with k above 64 or a start that isn't a multiple of 2^k.
unfoldable pub number_told : Block → Told ℕ
number_told b = cond (has_number b) (told (number_of b)) (refused 14 0)

unfoldable pub holds_told : Block → ℕ → Told Bool
holds_told b e = cond (is_block b) (told (in_block b e)) (refused 14 false)

-- What document 01 bars: "a block with k above 64 or a start that isn't a multiple of 2^k"; for its number, also k = 0.
abbrev pub Barred : Block → Type 0
Barred b = (64 < b.k) ⊎ (b.start % 2 ^ b.k ≡ 0 → ⊥)

abbrev pub Unnumbered : Block → Type 0
Unnumbered b = (b.k ≡ 0) ⊎ Barred b
