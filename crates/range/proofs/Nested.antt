-- R4: two blocks are nested or apart, once over k.
use Prim.Native.Nat.{ℕ, ◌+◌, ◌-◌, ◌/◌, ◌^◌, ◌≤◌}
use mathlib.Core.Path.{◌≡◌, refl, sym, ap, ◌∙◌}
use mathlib.Core.Logic.{◌⊎◌, inl, inr, ⊎_map}
use mathlib.Core.Bool.{Bool, true, false}
use native.Mathlib.Omega.{arith}
use borrow.Author.Tests.{eqb-true, eqb-false, eq-eqb, leb-true, leb-false}
use lib.Dec.{leb, eqb}
use lib.Pow.{shr-shr}
use Rattle.range.specs.declared.Block.{Block}
use Rattle.range.specs.Range.{is_block, in_block, Inside, Apart}
use Rattle.range.proofs.Laws.{in_block_prefix}

-- Above the smaller block's bits, its events have the larger prefix of its start.
prefix_above : (s e j k : ℕ) → j ≤ k → e / 2 ^ j ≡ s / 2 ^ j → e / 2 ^ k ≡ s / 2 ^ k
prefix_above s e j k h q =
    let more : j + (k - j) ≡ k = omega arith in
    rw (← more) (sym (shr-shr e j (k - j)) ∙ ap (λ (x : ℕ). x / 2 ^ (k - j)) q ∙ shr-shr s j (k - j))

pub inside_or_apart : (a b : Block) → is_block a ≡ true → is_block b ≡ true → a.k ≤ b.k → Inside a b ⊎ Apart a b
inside_or_apart a b v w h = go (eqb (a.start / 2 ^ b.k) (b.start / 2 ^ b.k)) refl
  where
    above : (e : ℕ) → in_block a e ≡ true → e / 2 ^ b.k ≡ a.start / 2 ^ b.k
    above e t = prefix_above a.start e a.k b.k h (eqb-true (e / 2 ^ a.k) (a.start / 2 ^ a.k) (sym (in_block_prefix a e v) ∙ t))

    go : (t : Bool) → eqb (a.start / 2 ^ b.k) (b.start / 2 ^ b.k) ≡ t → Inside a b ⊎ Apart a b
    go true q = inl (λ e t. in_block_prefix b e w ∙ eq-eqb _ _ (above e t ∙ eqb-true _ _ q))
    go false q = inr (λ e t u. eqb-false (a.start / 2 ^ b.k) (b.start / 2 ^ b.k) q (sym (above e t) ∙ eqb-true (e / 2 ^ b.k) (b.start / 2 ^ b.k) (sym (in_block_prefix b e w) ∙ u)))

-- Two blocks are nested or apart.
pub nested_or_apart : (a b : Block) → is_block a ≡ true → is_block b ≡ true → (Inside a b ⊎ Inside b a) ⊎ Apart a b
nested_or_apart a b v w = go (leb a.k b.k) refl
  where
    go : (t : Bool) → leb a.k b.k ≡ t → (Inside a b ⊎ Inside b a) ⊎ Apart a b
    go true e = ⊎_map inl (λ p. p) (inside_or_apart a b v w (leb-true a.k b.k e))
    go false e =
        let h = leb-false a.k b.k e in
        ⊎_map inr (λ p n t u. p n u t) (inside_or_apart b a w v (omega arith))
