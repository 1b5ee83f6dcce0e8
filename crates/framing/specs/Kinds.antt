-- What the first byte of a step says.
use Rattle.std.specs.Prelude.{ℕ, ◌≡◌, true, false, List, Option, MatchOption, get_or}
use Rattle.framing.specs.declared.files.Kind.{Kind}
use Rattle.framing.specs.declared.files.Kind.TheVariants.{Join, Split}
use Rattle.framing.specs.Files.{good_step}

abbrev pub number_of : Kind → ℕ
number_of Join = 1
number_of Split = 2

-- The kind with this number, where there is one.
abbrev pub IsKind : Option Kind → ℕ → Type 0
IsKind kind byte = MatchOption kind ((byte ≡ 1 → ⊥) × (byte ≡ 2 → ⊥)) (λ k. byte ≡ number_of k)

-- The kind of the step at a place, where that is a good one.
abbrev pub IsGood : Option Kind → List ℕ → ℕ → Type 0
IsGood kind s at = MatchOption kind (good_step s at ≡ false) (λ k. (good_step s at ≡ true) × (get_or s at 0 ≡ number_of k))
