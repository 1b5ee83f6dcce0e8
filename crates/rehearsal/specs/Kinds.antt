-- What the first byte of a call says.
use Rattle.std.specs.Prelude.{ℕ, ◌≡◌, ◌≤◌, true, false, List, Option, MatchOption}
use Rattle.rehearsal.specs.declared.files.Kind.{Kind}
use Rattle.rehearsal.specs.declared.files.Kind.TheVariants.{Initialise, Announce, Produce, SetStatus, Receive}
use Rattle.rehearsal.specs.Files.{call_in, good_call}

abbrev pub number_of : Kind → ℕ
number_of Initialise = 1
number_of Announce = 2
number_of Produce = 3
number_of SetStatus = 4
number_of Receive = 5

-- The kind with this number, where there is one.
abbrev pub IsKind : Option Kind → ℕ → Type 0
IsKind kind byte = MatchOption kind (1 ≤ byte → byte ≤ 5 → ⊥) (λ k. byte ≡ number_of k)

-- The kind of the call at a place, where that is a good one.
abbrev pub IsGood : Option Kind → List ℕ → ℕ → Type 0
IsGood kind s at = MatchOption kind (good_call s at ≡ false) (λ k. (good_call s at ≡ true) × (call_in s at ≡ number_of k))
