-- Refusals in an order: the first test that applies gives its number (document 01, "Refusal numbers").
use Rattle.std.specs.Prelude.{ℕ, zero, suc, ◌≡◌, Bool, true, false, cond, not, ◌&&◌, List, [], ◌∷◌, ◌++◌, eqb, leb, Result, Ok, Err}
use Rattle.basics.specs.declared.Refusal.{Refusal}
use Rattle.basics.specs.declared.Refusal.TheVariants.{TooShort, BarredMti, BadNode, BadContent, OtherSource, NoRoom, OutOfBounds, NoSuchPort, NotInitialized, NoSuchSlot, NotAProducer, NotAdvertised, TooManyReplies, NoBlock, NoReport, NotListed, NotBegun, PayloadTooLong, WrongLength, ThirdSender, OtherHeader}

pub record Test : Type 0 where
  pub number : ℕ
  pub applies : Bool

abbrev pub refuse : ℕ → Bool → Test
refuse n t = record { number = n; applies = t }

-- Every test has a number that is not 0.
abbrev pub numbered : List Test → Bool
numbered [] = true
numbered (t ∷ ts) = not (eqb t.number 0) && numbered ts

-- Every test has a number of at most n.
abbrev pub numbered_up_to : ℕ → List Test → Bool
numbered_up_to n [] = true
numbered_up_to n (t ∷ ts) = leb t.number n && numbered_up_to n ts

-- The refusal's number, 0 where no test applies.
abbrev pub first_of : List Test → ℕ
first_of [] = 0
first_of (t ∷ ts) = cond t.applies t.number (first_of ts)

-- The answer for a refusal's number: 0 is the value itself.
abbrev pub answered : {A R : Type 0} → (A → R) → (ℕ → R) → ℕ → A → R
answered accept reject zero x = accept x
answered accept reject (suc n) x = reject (suc n)

-- What an answer says in document 01's numbers: the refusal's number, 0 where there is none, and the value, or what stands beside a refusal.
pub record Told (A : Type 0) : Type 0 where
  pub refusal : ℕ
  pub value : A

abbrev pub told : {A : Type 0} → A → Told A
told v = record { refusal = 0; value = v }

abbrev pub refused : {A : Type 0} → ℕ → A → Told A
refused n none = record { refusal = n; value = none }

-- What tests in an order tell of a value: 0 and the value, or the refusal's number and nothing beside it.
abbrev pub told_by : {A : Type 0} → List Test → A → Told (List A)
told_by ts x = answered (λ y. told (y ∷ [])) (λ n. refused n []) (first_of ts) x

-- None of the tests applies.
pub data None : List Test → Type 0 where
  none : None []
  passed : {t : Test} {ts : List Test} → t.applies ≡ false → None ts → None (t ∷ ts)

-- The refusal n is given by a list of tests: one with that number applies, and none before it does.
pub record Given (n : ℕ) (ts : List Test) : Type 0 where
  pub before : List Test
  pub test : Test
  pub after : List Test
  pub order : ts ≡ before ++ (test ∷ after)
  pub earlier : None before
  pub here : test.applies ≡ true
  pub numbered : test.number ≡ n

-- ---- the code's refusals, in document 01's numbers and document 02's

abbrev pub refusal_number : Refusal → ℕ
refusal_number TooShort = 1
refusal_number BarredMti = 2
refusal_number BadNode = 3
refusal_number BadContent = 4
refusal_number OtherSource = 5
refusal_number NoRoom = 6
refusal_number OutOfBounds = 7
refusal_number NoSuchPort = 8
refusal_number NotInitialized = 9
refusal_number NoSuchSlot = 10
refusal_number NotAProducer = 11
refusal_number NotAdvertised = 12
refusal_number TooManyReplies = 13
refusal_number NoBlock = 14
refusal_number NoReport = 15
refusal_number NotListed = 16
refusal_number NotBegun = 17
refusal_number PayloadTooLong = 18
refusal_number WrongLength = 19
refusal_number ThirdSender = 20
refusal_number OtherHeader = 29

-- An answer with its refusal's number.
abbrev pub in_numbers : {A : Type 0} → Result A Refusal → Result A ℕ
in_numbers (Ok x) = Ok x
in_numbers (Err r) = Err (refusal_number r)

-- The number of an answer's refusal, 0 where there is none.
abbrev pub refusal_in : {A : Type 0} → Result A Refusal → ℕ
refusal_in (Ok x) = 0
refusal_in (Err r) = refusal_number r

-- What an answer tells: the value, or the refusal's number and nothing beside it.
abbrev pub told_of : {A : Type 0} → Result A ℕ → Told (List A)
told_of (Ok x) = told (x ∷ [])
told_of (Err n) = refused n []

-- The same with a value beside the number.
abbrev pub told_or : {A : Type 0} → A → Result A ℕ → Told A
told_or beside (Ok x) = told x
told_or beside (Err n) = refused n beside
