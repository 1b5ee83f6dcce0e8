-- Comparing two blocks (document 02, W4): equal, first inside second, second inside first, or apart.
use Rattle.std.specs.Prelude.{ℕ, ◌≡◌, ◌⊎◌, Bool, true, false, cond, ◌&&◌, Result, Ok, Err}
use Rattle.basics.specs.declared.Refusal.{Refusal}
use Rattle.basics.specs.declared.Refusal.TheVariants.{NoBlock}
use Rattle.basics.specs.Refusals.{Told, told, refused, refusal_number}
use Rattle.range.specs.declared.Block.{Block}
use Rattle.range.specs.declared.Comparison.{Comparison}
use Rattle.range.specs.declared.Comparison.TheVariants.{Equal, FirstInside, SecondInside, Apart}
use Rattle.range.specs.Range.{is_block, inside, Inside, Apart as NoneOfBoth}
use Rattle.range.specs.Answer.{Barred}

-- By whether the first is inside the second, and the second inside the first.
abbrev pub lying : Bool → Bool → Comparison
lying true true = Equal
lying true false = FirstInside
lying false true = SecondInside
lying false false = Apart

-- 14 for what is no block.
unfoldable pub comparison : Block → Block → Result Comparison Refusal
comparison a b = cond (is_block a && is_block b) (Ok (lying (inside a b) (inside b a))) (Err NoBlock)

-- The answer as a number, 1 to 4 in that order, and 0 beside the refusal.
abbrev pub comparison_number : Comparison → ℕ
comparison_number Equal = 1
comparison_number FirstInside = 2
comparison_number SecondInside = 3
comparison_number Apart = 4

abbrev pub comparison_told : Result Comparison Refusal → Told ℕ
comparison_told (Ok c) = told (comparison_number c)
comparison_told (Err r) = refused (refusal_number r) 0

-- ---- what an answer says

abbrev pub Blocks : Block → Block → Type 0
Blocks a b = (is_block a ≡ true) × (is_block b ≡ true)

-- Of the events of two blocks; of a refusal, that it is 14 and one of the two is no block.
abbrev pub Lies : Block → Block → Result Comparison Refusal → Type 0
Lies a b (Ok Equal) = Blocks a b × Inside a b × Inside b a
Lies a b (Ok FirstInside) = Blocks a b × Inside a b × (Inside b a → ⊥)
Lies a b (Ok SecondInside) = Blocks a b × (Inside a b → ⊥) × Inside b a
Lies a b (Ok Apart) = Blocks a b × NoneOfBoth a b
Lies a b (Err r) = (r ≡ NoBlock) × (Barred a ⊎ Barred b)
