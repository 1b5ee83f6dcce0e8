-- What an announcement leaves: the lines that were there, itself in place of those that it holds, one line more, or one open mark more.
use Prim.Native.Nat.{ℕ, ◌+◌, ◌*◌, ◌/◌, ◌%◌, ◌^◌, ◌≤◌, ◌<◌}
use mathlib.Core.Path.{◌≡◌, refl, sym, ap, ap₂, ◌∙◌}
use mathlib.Core.Bool.{Bool, true, false, ◌||◌, or_comm}
use native.Mathlib.Nat.{le_trans}
use native.Mathlib.Omega.{arith}
use borrow.Author.Tests.{eq-eqb, eqb-false, eqb-true, leb-true, leb-false, le-ltb, ne_eqb}
use lib.Dec.{eqb, leb, ltb}
use lib.ListN.{length}
use lib.Pow.{pow_mono, high}
use Rattle.basics.specs.Lists.{without}
use Rattle.basics.specs.Sets.{set_of, in_set}
use Rattle.basics.proofs.Lists.{fewer_without}
use Rattle.gateway_rules.specs.declared.Line.{Line}
use Rattle.gateway.specs.declared.state.Head.{Head}
use Rattle.gateway.specs.State.{Lists, gate_in, line_at, head_with, lines_in}
use Rattle.gateway_rules.specs.Step.{held_by, covered, holds_some, replacing, storing, announce}
use Rattle.basics.proofs.Sets.{set_below, member_of_set}
use Rattle.gateway_rules.proofs.Changes.{covered_keeps, holding_replaces, new_stores}
use Rattle.basics.proofs.Each.{each_length}

-- ---- the marks with one more

eqb_turned : (a b : ℕ) → eqb a b ≡ eqb b a
eqb_turned a b = go (eqb b a) refl
  where
    go : (t : Bool) → eqb b a ≡ t → eqb a b ≡ t
    go true e = eq-eqb a b (sym (eqb-true b a e))
    go false e = ne_eqb a b (λ z. eqb-false b a e (sym z))

-- No bit past a byte.
no_bit_past : (p x : ℕ) → 8 ≤ p → x < 256 → in_set x p ≡ false
no_bit_past p x l h =
    let top : 256 ≤ 2 ^ p = pow_mono l in
    let sum : x ≡ 0 * 2 ^ p + x = omega arith in
    let none : x / 2 ^ p ≡ 0 = ap (λ (y : ℕ). y / 2 ^ p) sum ∙ high 0 p (le_trans h top) in
    ap (λ (y : ℕ). eqb (y % 2) 1) none

one_more_mark : (marks q : ℕ) → marks < 256 → q < 8 → (p : ℕ) → in_set (set_of 8 (λ r. in_set marks r || eqb q r)) p ≡ (eqb p q || in_set marks p)
one_more_mark marks q m l p = go (leb 8 p) refl
  where
    put : ℕ → Bool
    put r = in_set marks r || eqb q r

    go : (t : Bool) → leb 8 p ≡ t → in_set (set_of 8 put) p ≡ (eqb p q || in_set marks p)
    go true e =
        let far : 8 ≤ p = leb-true 8 p e in
        no_bit_past p (set_of 8 put) far (set_below 8 put) ∙ sym (ap₂ (λ (s t : Bool). s || t) (ne_eqb p q (λ z. omega (arith, z, l, far))) (no_bit_past p marks far m))
    go false e = member_of_set 8 put p (leb-false 8 p e) ∙ or_comm (in_set marks p) (eqb q p) ∙ ap (λ (t : Bool). t || in_set marks p) (eqb_turned q p)

-- ---- the cases of an announcement

module _ (head : Head) (t : Lists) (l : Line) where
  pub covered_line : covered (lines_in head.count t) l ≡ true → gate_in head t ≡ announce (gate_in head t) l
  unfolding gate_in
  covered_line y = sym (covered_keeps (gate_in head t) l y)

  pub holding_line : covered (lines_in head.count t) l ≡ false → holds_some (lines_in head.count t) l ≡ true → replacing (gate_in head t) l ≡ announce (gate_in head t) l
  unfolding gate_in
  holding_line n y = sym (holding_replaces (gate_in head t) l n y)

  pub new_line_lem : covered (lines_in head.count t) l ≡ false → holds_some (lines_in head.count t) l ≡ false → storing (gate_in head t) l ≡ announce (gate_in head t) l
  unfolding gate_in
  new_line_lem n y = sym (new_stores (gate_in head t) l n y)

  -- Fewer stay than there were, and the line is put behind them.
  pub fewer_kept : (after : Lists) (kept : ℕ) → lines_in kept after ≡ without (held_by l) (lines_in head.count t) → holds_some (lines_in head.count t) l ≡ true → kept < head.count
  fewer_kept after kept e y =
      omega (
        arith,
        each_length kept (line_at after),
        each_length head.count (line_at t),
        ap length e,
        fewer_without (held_by l) (lines_in head.count t) y,
      )

  pub opened_port : (marks : ℕ) → 256 ≤ head.count → head.marks < 256 → l.port < 8
      → marks ≡ set_of 8 (λ p. in_set head.marks p || eqb l.port p)
      → gate_in (head_with head marks head.count) t ≡ storing (gate_in head t) l
  unfolding gate_in
  opened_port marks f m q e =
      let room : ltb (length (lines_in head.count t)) 256 ≡ false = ap (λ (k : ℕ). ltb k 256) (each_length head.count (line_at t)) ∙ le-ltb head.count 256 f in
      let more : (p : ℕ) → in_set marks p ≡ (eqb p l.port || in_set head.marks p) = λ p. ap (λ (x : ℕ). in_set x p) e ∙ one_more_mark head.marks l.port m q p in
      rw room (λ i. record { ports = head.ports; automatic = head.automatic; lines = lines_in head.count t; marked = λ p. more p i })
