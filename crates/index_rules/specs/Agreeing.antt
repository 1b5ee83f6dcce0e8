-- What is asked of an order, and what the code's tests and passes say of it as a function of places.
use Rattle.std.specs.Prelude.{ℕ, zero, suc, ◌+◌, ◌-◌, ◌*◌, ◌<◌, ◌≡◌, Bool, true, false, cond, ◌&&◌, ◌||◌, List, [], ◌∷◌, eqb, leb, ltb, get_or}
use Rattle.basics.specs.Sets.{any_below}

-- ---- the test

-- What the order is sorted by: the spot, then the number, which is below 256.
abbrev pub key : (ℕ → ℕ) → ℕ → ℕ
key spotAt p = spotAt p * 256 + p

-- Of n lines: each number is below n, and each stands before the next.
pub record Agrees (spotAt : ℕ → ℕ) (n : ℕ) (at : ℕ → ℕ) : Type 0 where
  pub below : (i : ℕ) → i < n → at i < n
  pub rising : (i : ℕ) → i + 1 < n → key spotAt (at i) < key spotAt (at (i + 1))

-- The same as a test of the place i: no line's number, or one that does not stand behind that before it.
abbrev pub stray : (ℕ → ℕ) → ℕ → (ℕ → ℕ) → ℕ → Bool
stray spotAt n at i = leb n (at i) || (ltb 0 i && leb (key spotAt (at i)) (key spotAt (at (i - 1))))

abbrev pub disagrees : (ℕ → ℕ) → ℕ → (ℕ → ℕ) → Bool
disagrees spotAt n at = any_below n (stray spotAt n at)

-- Whether two lists of numbers are the same.
unfoldable pub same_numbers : List ℕ → List ℕ → Bool
same_numbers [] [] = true
same_numbers [] (y ∷ ys) = false
same_numbers (x ∷ xs) [] = false
same_numbers (x ∷ xs) (y ∷ ys) = eqb x y && same_numbers xs ys

-- How often a number stands in a list.
unfoldable pub how_often : ℕ → List ℕ → ℕ
how_often i [] = 0
how_often i (x ∷ xs) = cond (eqb i x) 1 0 + how_often i xs

-- ---- when lines go

-- How many of the places below p stay: the new number of the line at place p, where it stays.
abbrev pub rank : (ℕ → Bool) → ℕ → ℕ
rank gone zero = zero
rank gone (suc p) = rank gone p + cond (gone p) 0 1

-- By how much each of the first n numbers is lowered, 256 for a line that goes.
pub record Falls (gone : ℕ → Bool) (n : ℕ) (falls : List ℕ) : Type 0 where
  pub by : (p : ℕ) → p < n → get_or falls p 0 ≡ cond (gone p) 256 (p - rank gone p)

-- Place i of the order names a line that goes.
abbrev pub drops : List ℕ → (ℕ → ℕ) → ℕ → Bool
drops falls at i = leb 256 (get_or falls (at i) 0)

-- The numbers of the lines that stay, in their order and lowered.
pub record Lowered (falls : List ℕ) (at : ℕ → ℕ) (n : ℕ) (to : ℕ → ℕ) : Type 0 where
  pub entries : (i : ℕ) → i < n → drops falls at i ≡ false → to (rank (drops falls at) i) ≡ at i - get_or falls (at i) 0
