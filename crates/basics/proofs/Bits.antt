-- One bit of a set of so many, and a set that is made bit by bit.
use Prim.Native.Nat.{ℕ, suc, ◌+◌, ◌*◌, ◌%◌, ◌^◌, ◌<◌, ◌≤◌}
use mathlib.Core.Path.{◌≡◌, sym, ap, ap₂, ◌∙◌}
use mathlib.Core.Bool.{Bool, cond}
use native.Mathlib.Nat.{pow-suc, one-mul}
use native.Mathlib.Numerals.{add-one}
use native.Mathlib.Omega.{arith}
use lib.Dec.{lit<}
use lib.Pow.{pow_mono, shl_exact}
use Rattle.basics.specs.Sets.{set_of}

pub one_bit : (w i : ℕ) → i < w → 1 * 2 ^ i % 2 ^ w ≡ 2 ^ i
one_bit w i l = shl_exact 1 i w (lit< tt) (omega arith) ∙ one-mul (2 ^ i)

pub bit_fits : (w x i : ℕ) → i < w → x < 2 ^ i → x + 2 ^ i < 2 ^ w
bit_fits w x i l h = let top : 2 ^ suc i ≤ 2 ^ w = pow_mono l in omega (arith, top, h, pow-suc 2 i)

-- One number more.
pub next_bit : (f : ℕ → Bool) (i x : ℕ) (t : Bool) → x ≡ set_of i f → t ≡ f i → x + cond t (2 ^ i) 0 ≡ set_of (i + 1) f
unfolding set_of
next_bit f i x t e s = ap₂ (λ (y : ℕ) (u : Bool). y + cond u (2 ^ i) 0) e s ∙ ap (λ (k : ℕ). set_of k f) (sym (add-one i))
