-- The number by which lines are put in order compares port, then size, then first event.
use Prim.Native.Nat.{ℕ, ◌+◌, ◌*◌, ◌^◌, ◌<◌}
use mathlib.Core.Path.{◌≡◌, refl, ap, ap₂, ◌∙◌}
use mathlib.Core.Bool.{Bool, true, false, ◌&&◌, ◌||◌}
use native.Mathlib.Nat.{mul-le-mul_right, suc-mul}
use native.Mathlib.Omega.{arith}
use borrow.Author.Tests.{ltb-true, ltb-false, lt-ltb, le-ltb, eqb-true, eqb-false, eq-eqb}
use lib.Dec.{eqb, ltb}
use Rattle.basics.proofs.Bools.{same_truth, both}
use Rattle.gateway_rules.specs.declared.Line.{Line}
use Rattle.index_rules.specs.Index.{spot, spot_of}

-- ---- two numbers in one: the larger part first, the smaller below w

module _ (w : ℕ) where
  larger : (a b x : ℕ) → a < b → x < w → a * w + x < b * w
  larger a b x h l = omega (arith, mul-le-mul_right w h, suc-mul a w)

  pair_before : (a b x y : ℕ) → x < w → y < w → ltb (a * w + x) (b * w + y) ≡ (ltb a b || (eqb a b && ltb x y))
  pair_before a b x y l m = go (ltb a b) (eqb a b) refl refl
    where
      below : (t : Bool) → a ≡ b → ltb x y ≡ t → ltb (a * w + x) (b * w + y) ≡ t
      below true e h = lt-ltb (a * w + x) (b * w + y) (omega (arith, ap (λ (c : ℕ). c * w) e, ltb-true x y h))
      below false e h = le-ltb (a * w + x) (b * w + y) (omega (arith, ap (λ (c : ℕ). c * w) e, ltb-false x y h))

      go : (less same : Bool) → ltb a b ≡ less → eqb a b ≡ same → ltb (a * w + x) (b * w + y) ≡ (less || (same && ltb x y))
      go true same h e = lt-ltb (a * w + x) (b * w + y) (omega (arith, larger a b x (ltb-true a b h) l))
      go false true h e = below (ltb x y) (eqb-true a b e) refl
      go false false h e =
          let other = eqb-false a b e in
          let more : b < a = omega (arith, ltb-false a b h, other) in
          le-ltb (a * w + x) (b * w + y) (omega (arith, larger b a y more m))

  pair_same : (a b x y : ℕ) → x < w → y < w → eqb (a * w + x) (b * w + y) ≡ (eqb a b && eqb x y)
  pair_same a b x y l m = same_truth _ _ forth back
    where
      forth : eqb (a * w + x) (b * w + y) ≡ true → (eqb a b && eqb x y) ≡ true
      forth t =
          let whole = eqb-true (a * w + x) (b * w + y) t in
          let same : a ≡ b = one (ltb a b) (ltb b a) refl refl whole in
          rw (eq-eqb a b same) (eq-eqb x y (omega (arith, whole, ap (λ (c : ℕ). c * w) same)))
        where
          one : (s t : Bool) → ltb a b ≡ s → ltb b a ≡ t → a * w + x ≡ b * w + y → a ≡ b
          one true t h k e = absurd (omega (arith, e, larger a b x (ltb-true a b h) l))
          one false true h k e = absurd (omega (arith, e, larger b a y (ltb-true b a k) m))
          one false false h k e = omega (arith, ltb-false a b h, ltb-false b a k)

      back : (eqb a b && eqb x y) ≡ true → eqb (a * w + x) (b * w + y) ≡ true
      back t =
          let h = both (eqb a b) (eqb x y) t in
          eq-eqb (a * w + x) (b * w + y) (ap₂ (λ (c z : ℕ). c * w + z) (eqb-true a b h.0) (eqb-true x y h.1))

-- ---- three

by_parts : (p e k s f : Bool) → ((p || (e && k)) || ((e && s) && f)) ≡ (p || (e && (k || (s && f))))
by_parts true e k s f = refl
by_parts false true k s f = refl
by_parts false false k s f = refl

-- The number orders lines by port, then size, then first event.
pub spot_order : (a b : Line) → a.block.k < 256 → b.block.k < 256 → a.block.start < 2 ^ 64 → b.block.start < 2 ^ 64
    → ltb (spot_of a) (spot_of b)
    ≡ (ltb a.port b.port
    || (eqb a.port b.port
    && (ltb a.block.k b.block.k || (eqb a.block.k b.block.k && ltb a.block.start b.block.start))))
unfolding spot
spot_order a b ka kb sa sb =
    pair_before (2 ^ 64) (a.port * 256 + a.block.k) (b.port * 256 + b.block.k) a.block.start b.block.start sa sb
    ∙ ap₂ (λ (s t : Bool). s || (t && ltb a.block.start b.block.start))
    (pair_before 256 a.port b.port a.block.k b.block.k ka kb)
    (pair_same 256 a.port b.port a.block.k b.block.k ka kb)
    ∙ by_parts (ltb a.port b.port) (eqb a.port b.port) (ltb a.block.k b.block.k) (eqb a.block.k b.block.k) (ltb a.block.start b.block.start)
