-- A bit of a word.
use Prim.Native.Nat.{ℕ, ◌+◌, ◌%◌, ◌^◌, ◌<◌}
use mathlib.Core.Path.{◌≡◌, sym, ap, ◌∙◌}
use mathlib.Core.Bool.{true, false, ◌||◌}
use native.Mathlib.Nat.{zero-div}
use lib.Dec.{eqb}
use Rattle.basics.specs.Sets.{set_of, in_set}
use Rattle.basics.proofs.Sets.{set_of_bits, set_put, set_had}

-- A word as a set with a bit put in, where it was not there and where it was.
pub in_put : (w set bit : ℕ) → set < 2 ^ w → bit < w → in_set set bit ≡ false → set + 2 ^ bit ≡ set_of w (λ b. in_set set b || eqb bit b)
in_put w set bit h l e = ap (λ (x : ℕ). x + 2 ^ bit) (sym (set_of_bits w set h)) ∙ set_put w (in_set set) bit l e

pub in_had : (w set bit : ℕ) → set < 2 ^ w → in_set set bit ≡ true → set ≡ set_of w (λ b. in_set set b || eqb bit b)
in_had w set bit h e = sym (set_of_bits w set h) ∙ set_had w (in_set set) bit e

pub no_bit : (p : ℕ) → in_set 0 p ≡ false
no_bit p = ap (λ (x : ℕ). eqb (x % 2) 1) (zero-div (2 ^ p))
