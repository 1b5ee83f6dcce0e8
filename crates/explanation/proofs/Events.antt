-- The last event of a block in eight bytes, also where the block is none.
use Rattle.std.proofs.Common.{◌≡◌, ℕ, zero, suc, ◌+◌, ◌-◌, ◌*◌, ◌/◌, ◌%◌, ◌^◌, ◌≤◌, List, [], ◌∷◌, ◌++◌, sym, refl, ap, ◌∙◌, ap₂, pow-suc, arith, lit<, pow_pos, pow-add}
use native.Mathlib.Nat.{one-le-pow, add-mul-mod_self_right}
use lib.Arith.{mod-mul}
use Rattle.numbers.specs.Numbers.{bytes_of}
use Rattle.text.specs.Text.{hex_of}
use Rattle.range.specs.declared.Block.{Block}
use Rattle.range.specs.Range.{last}
use Rattle.explanation.specs.Words.{event_text}

-- The low bytes of a number are those of what they hold of it.
bytes_low : (w x : ℕ) → bytes_of w (x % 256 ^ w) ≡ bytes_of w x
unfolding bytes_of
bytes_low zero x = refl
bytes_low (suc w) x =
    let whole : x % 256 ^ suc w ≡ x / 256 % 256 ^ w * 256 + x % 256
    = ap (λ (m : ℕ). x % m) (pow-suc 256 w) ∙ mod-mul x (one-le-pow w 256 (lit< tt)) (lit< tt) in
    let high : x % 256 ^ suc w / 256 ≡ x / 256 % 256 ^ w = omega (arith, whole) in
    let low : x % 256 ^ suc w % 256 ≡ x % 256 = omega (arith, whole) in
    ap₂ (λ (y b : ℕ). bytes_of w y ++ (b ∷ [])) high low ∙ ap (λ (l : List ℕ). l ++ (x % 256 ∷ [])) (bytes_low w (x / 256))

pub event_low : (e : ℕ) → event_text (e % 2 ^ 64) ≡ event_text e
event_low e = ap hex_of (bytes_low 8 e)

-- 64 ones or more below a number leave the same 64 bits.
pub last_wide : (b : Block) → 64 ≤ b.k → (b.start + (2 ^ 64 - 1)) % 2 ^ 64 ≡ last b % 2 ^ 64
last_wide b h =
    let more : ℕ = 2 ^ (b.k - 64) in
    let split : 2 ^ b.k ≡ more * 2 ^ 64 = ap (λ (k : ℕ). 2 ^ k) (wide h) ∙ pow-add 2 (b.k - 64) 64 in
    let some = pow_pos (b.k - 64) in
    let whole : last b ≡ b.start + (2 ^ 64 - 1) + (more - 1) * 2 ^ 64 = omega (arith, split, some) in
    sym (ap (λ (n : ℕ). n % 2 ^ 64) whole ∙ add-mul-mod_self_right (b.start + (2 ^ 64 - 1)) (more - 1) (2 ^ 64))
  where
    wide : 64 ≤ b.k → b.k ≡ b.k - 64 + 64
    wide h = omega arith
