-- The numbers of the code's refusals: each is one refusal's, none is 0, and what an answer tells in them decides the answer.
use Prim.Native.Nat.{ℕ, zero, suc}
use mathlib.Core.Path.{◌≡◌, refl, sym, ap, ◌∙◌}
use mathlib.Core.Bool.{cond}
use mathlib.Core.List.{List, [], ◌∷◌}
use native.Mathlib.Omega.{arith}
use lib.Dec.{eqb}
use Rattle.std.specs.Prelude.{Result, Ok, Err}
use Rattle.basics.specs.declared.Refusal.{Refusal}
use Rattle.basics.specs.declared.Refusal.TheVariants.{TooShort, BarredMti, BadNode, BadContent, OtherSource, NoRoom, OutOfBounds, NoSuchPort, NotInitialized, NoSuchSlot, NotAProducer, NotAdvertised, TooManyReplies, NoBlock, NoReport, NotListed, NotBegun, PayloadTooLong, WrongLength, ThirdSender, OtherHeader}
use Rattle.basics.specs.Refusals.{answered, Told, told, refused, refusal_number, in_numbers, refusal_in, told_of, told_or}
use Rattle.basics.specs.Lists.{first_or}

-- The refusal of a number; any other number is the last's.
unfoldable refusal_of : ℕ → Refusal
refusal_of n =
    cond (eqb n 1) TooShort (cond (eqb n 2) BarredMti (cond (eqb n 3) BadNode (cond (eqb n 4) BadContent (cond (eqb n 5) OtherSource (cond (eqb n 6) NoRoom (cond (eqb n 7) OutOfBounds (cond (eqb n 8) NoSuchPort (cond (eqb n 9) NotInitialized (cond (eqb n 10) NoSuchSlot (cond (eqb n 11) NotAProducer (cond (eqb n 12) NotAdvertised (cond (eqb n 13) TooManyReplies (cond (eqb n 14) NoBlock (cond (eqb n 15) NoReport (cond (eqb n 16) NotListed (cond (eqb n 17) NotBegun (cond (eqb n 18) PayloadTooLong (cond (eqb n 19) WrongLength (cond (eqb n 20) ThirdSender (OtherHeader))))))))))))))))))))

pub refusal_once : (r s : Refusal) → refusal_number r ≡ refusal_number s → r ≡ s
refusal_once r s e = sym (back r) ∙ ap refusal_of e ∙ back s
  where
    back : (r : Refusal) → refusal_of (refusal_number r) ≡ r
    back TooShort = unfold refusal_of in refl
    back BarredMti = unfold refusal_of in refl
    back BadNode = unfold refusal_of in refl
    back BadContent = unfold refusal_of in refl
    back OtherSource = unfold refusal_of in refl
    back NoRoom = unfold refusal_of in refl
    back OutOfBounds = unfold refusal_of in refl
    back NoSuchPort = unfold refusal_of in refl
    back NotInitialized = unfold refusal_of in refl
    back NoSuchSlot = unfold refusal_of in refl
    back NotAProducer = unfold refusal_of in refl
    back NotAdvertised = unfold refusal_of in refl
    back TooManyReplies = unfold refusal_of in refl
    back NoBlock = unfold refusal_of in refl
    back NoReport = unfold refusal_of in refl
    back NotListed = unfold refusal_of in refl
    back NotBegun = unfold refusal_of in refl
    back PayloadTooLong = unfold refusal_of in refl
    back WrongLength = unfold refusal_of in refl
    back ThirdSender = unfold refusal_of in refl
    back OtherHeader = unfold refusal_of in refl

pub refusal_numbered : (r : Refusal) → refusal_number r ≡ 0 → ⊥
refusal_numbered TooShort e = omega (arith, e)
refusal_numbered BarredMti e = omega (arith, e)
refusal_numbered BadNode e = omega (arith, e)
refusal_numbered BadContent e = omega (arith, e)
refusal_numbered OtherSource e = omega (arith, e)
refusal_numbered NoRoom e = omega (arith, e)
refusal_numbered OutOfBounds e = omega (arith, e)
refusal_numbered NoSuchPort e = omega (arith, e)
refusal_numbered NotInitialized e = omega (arith, e)
refusal_numbered NoSuchSlot e = omega (arith, e)
refusal_numbered NotAProducer e = omega (arith, e)
refusal_numbered NotAdvertised e = omega (arith, e)
refusal_numbered TooManyReplies e = omega (arith, e)
refusal_numbered NoBlock e = omega (arith, e)
refusal_numbered NoReport e = omega (arith, e)
refusal_numbered NotListed e = omega (arith, e)
refusal_numbered NotBegun e = omega (arith, e)
refusal_numbered PayloadTooLong e = omega (arith, e)
refusal_numbered WrongLength e = omega (arith, e)
refusal_numbered ThirdSender e = omega (arith, e)
refusal_numbered OtherHeader e = omega (arith, e)

-- Answers in numbers are the answers.
pub numbers_once : {A : Type 0} (x y : Result A Refusal) → in_numbers x ≡ in_numbers y → x ≡ y
numbers_once (Ok x) (Ok y) e = cc
numbers_once (Ok x) (Err s) e = cc
numbers_once (Err r) (Ok y) e = cc
numbers_once (Err r) (Err s) e = let n : refusal_number r ≡ refusal_number s = cc in ap Err (refusal_once r s n)

-- What is told is the answer.
pub told_of_once : {A : Type 0} (x y : Result A ℕ) → told_of x ≡ told_of y → x ≡ y
told_of_once {A} x y e = sym (back x) ∙ ap from e ∙ back y
  where
    from : Told (List A) → Result A ℕ
    from t = first_or (Err t.refusal) Ok t.value

    back : (r : Result A ℕ) → from (told_of r) ≡ r
    back (Ok x) = refl
    back (Err n) = refl

pub answer_once : {A : Type 0} (x y : Result A Refusal) → told_of (in_numbers x) ≡ told_of (in_numbers y) → x ≡ y
answer_once x y e = numbers_once x y (told_of_once (in_numbers x) (in_numbers y) e)

-- What an answer by its refusal's number tells.
pub told_answered : {A : Type 0} (n : ℕ) (x : A) → told_of (answered Ok Err n x) ≡ answered (λ y. told (y ∷ [])) (λ k. refused k []) n x
told_answered zero x = refl
told_answered (suc n) x = refl

-- With something beside the number it is the answer too, since no refusal's number is 0.
pub told_or_once : {A : Type 0} (beside : A) (x y : Result A Refusal) → told_or beside (in_numbers x) ≡ told_or beside (in_numbers y) → x ≡ y
told_or_once beside (Ok x) (Ok y) e = ap (λ (t : Told _). Ok t.value) e
told_or_once beside (Ok x) (Err s) e = absurd (refusal_numbered s (sym (ap (λ (t : Told _). t.refusal) e)))
told_or_once beside (Err r) (Ok y) e = absurd (refusal_numbered r (ap (λ (t : Told _). t.refusal) e))
told_or_once beside (Err r) (Err s) e = ap Err (refusal_once r s (ap (λ (t : Told _). t.refusal) e))

-- The refusal that is told is the answer's own.
pub refusal_told : {A : Type 0} (beside : A) (x : Result A Refusal) → (told_or beside (in_numbers x)).refusal ≡ refusal_in x
refusal_told beside (Ok x) = refl
refusal_told beside (Err r) = refl
