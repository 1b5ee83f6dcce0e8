-- Exactly which headers are those of each part.
use Prim.Native.Nat.{ℕ, ◌+◌, ◌*◌, ◌%◌, ◌≤◌}
use mathlib.Core.Path.{◌≡◌, refl, ap, ◌∙◌}
use mathlib.Core.Logic.{◌↔◌}
use mathlib.Core.Bool.{Bool, true, false, cond, true≢false}
use native.Mathlib.Omega.{arith}
use borrow.Author.Tests.{eqb-true, eqb-false, eq-eqb, ne_eqb}
use lib.Dec.{eqb}
use Rattle.can_rules.specs.declared.Part.{Part}
use Rattle.can_rules.specs.declared.Part.TheVariants.{Whole, Start, Middle, Last, OtherHeader}
use Rattle.can_rules.specs.Frames.{mti_of, header_of, alias_in, headed, part_in}
use Rattle.can_rules.specs.Aliases.{highest_alias}
use Rattle.can_rules.specs.Joining.{is_other}

-- A header's alias is the one that it was made with.
pub alias_in_lem : (part : Part) (a : ℕ) → a ≤ highest_alias → alias_in (header_of part a) ≡ a
alias_in_lem part a low = go (mti_of part)
  where
    go : (m : ℕ) → (0x19000000 + m * 0x1000 + a) % 0x1000 ≡ a
    go m = omega arith

-- Headers with the same alias are the same where their MTIs are.
headed_as : (p q : Part) (a : ℕ) → a ≤ highest_alias → headed (header_of p a) q ≡ eqb (mti_of p) (mti_of q)
headed_as p q a low = ap (λ (x : ℕ). eqb (header_of p a) (header_of q x)) (alias_in_lem p a low) ∙ go (mti_of p) (mti_of q) (eqb (mti_of p) (mti_of q)) refl
  where
    go : (m k : ℕ) (t : Bool) → eqb m k ≡ t → eqb (0x19000000 + m * 0x1000 + a) (0x19000000 + k * 0x1000 + a) ≡ t
    go m k true e = let same = eqb-true m k e in eq-eqb (0x19000000 + m * 0x1000 + a) (0x19000000 + k * 0x1000 + a) (omega arith)
    go m k false e = ne_eqb (0x19000000 + m * 0x1000 + a) (0x19000000 + k * 0x1000 + a) (λ z. eqb-false m k e (omega arith))

pub header_part : (part : Part) (a : ℕ) → a ≤ highest_alias → is_other part ≡ false → part_in (header_of part a) ≡ part
unfolding part_in
header_part Whole a low is = rw (headed_as Whole Whole a low)
header_part Start a low is = rw (headed_as Start Whole a low, headed_as Start Start a low)
header_part Middle a low is = rw (headed_as Middle Whole a low, headed_as Middle Start a low, headed_as Middle Middle a low)
header_part Last a low is = rw (headed_as Last Whole a low, headed_as Last Start a low, headed_as Last Middle a low, headed_as Last Last a low)
header_part OtherHeader a low is = absurd (true≢false is)

-- A header is that of the part that it is taken for.
as_headed : (h : ℕ) → is_other (part_in h) ≡ false → h ≡ header_of (part_in h) (alias_in h)
unfolding part_in
as_headed h = whole (headed h Whole) refl
  where
    last : (t : Bool) → headed h Last ≡ t → is_other (cond t Last OtherHeader) ≡ false → h ≡ header_of (cond t Last OtherHeader) (alias_in h)
    last true e is = eqb-true h (header_of Last (alias_in h)) e
    last false e is = absurd (true≢false is)

    middle : (t : Bool) → headed h Middle ≡ t → is_other (cond t Middle (cond (headed h Last) Last OtherHeader)) ≡ false
        → h ≡ header_of (cond t Middle (cond (headed h Last) Last OtherHeader)) (alias_in h)
    middle true e is = eqb-true h (header_of Middle (alias_in h)) e
    middle false e is = last (headed h Last) refl is

    start : (t : Bool) → headed h Start ≡ t → is_other (cond t Start (cond (headed h Middle) Middle (cond (headed h Last) Last OtherHeader))) ≡ false
        → h ≡ header_of (cond t Start (cond (headed h Middle) Middle (cond (headed h Last) Last OtherHeader))) (alias_in h)
    start true e is = eqb-true h (header_of Start (alias_in h)) e
    start false e is = middle (headed h Middle) refl is

    whole : (t : Bool) → headed h Whole ≡ t → is_other (cond t Whole (cond (headed h Start) Start (cond (headed h Middle) Middle (cond (headed h Last) Last OtherHeader)))) ≡ false
        → h ≡ header_of (cond t Whole (cond (headed h Start) Start (cond (headed h Middle) Middle (cond (headed h Last) Last OtherHeader)))) (alias_in h)
    whole true e is = eqb-true h (header_of Whole (alias_in h)) e
    whole false e is = start (headed h Start) refl is

-- A part is that of the headers that are the sum for it and their own alias, and of no other; a header that is none of these is another one.
pub part_exactly : (part : Part) → is_other part ≡ false → (h : ℕ) → (part_in h ≡ part) ↔ (h ≡ header_of part (alias_in h))
part_exactly part is h = (
  λ e. as_headed h (ap is_other e ∙ is) ∙ ap (λ (p : Part). header_of p (alias_in h)) e,
  λ e. ap part_in e ∙ header_part part (alias_in h) (omega arith) is,
)
