-- What a board in bounds has.
use Prim.Native.Nat.{ℕ, zero, suc, ◌≤◌, ◌<◌}
use mathlib.Core.Path.{◌≡◌, refl, ap, ◌∙◌}
use mathlib.Core.Logic.{⊎_elim}
use mathlib.Core.Bool.{Bool, true, false, not, ◌||◌}
use native.Mathlib.Nat.{eq-or-lt_of_le, le_of_suc-le-suc, not-suc-le-zero}
use native.Mathlib.Omega.{arith}
use borrow.Author.Tests.{eqb-true, ltb-false, not-false, leb-true, leb-false}
use lib.Dec.{eqb, leb, ltb}
use lib.ListN.{length, get_or-eq_default}
use Rattle.range.specs.Range.{has_number}
use Rattle.basics.specs.Sets.{any_below}
use Rattle.basics.proofs.Bools.{neither}
use Rattle.node_rules.specs.Boards.{Board, count, role_of, status_of, mark_of, bad_lengths, bad_record, bad_slot, bad_slots, out_of_bounds}

pub record InBounds (b : Board) : Type 0 where
  pub events : length b.slots.events ≡ count b.slots
  pub statuses : length b.slots.statuses ≡ count b.slots
  pub marks : length b.slots.marks ≡ count b.slots
  pub few : count b.slots ≤ 64
  pub automatic : has_number b.node.automatic ≡ true
  pub slots : bad_slots b.node.state b.slots ≡ false

-- Four lists of one length, of at most 64.
pub lengths_good : (r e s m : ℕ) → bad_lengths r e s m ≡ false → (e ≡ r) × (s ≡ r) × (m ≡ r) × (r ≤ 64)
lengths_good r e s m g =
    let h = neither (not (eqb e r)) (not (eqb s r) || (not (eqb m r) || ltb 64 r)) g in
    let k = neither (not (eqb s r)) (not (eqb m r) || ltb 64 r) h.1 in
    let v = neither (not (eqb m r)) (ltb 64 r) k.1 in (
      eqb-true e r (not-false (eqb e r) h.0),
      eqb-true s r (not-false (eqb s r) k.0),
      eqb-true m r (not-false (eqb m r) v.0),
      ltb-false 64 r v.1,
    )

pub in_bounds : (b : Board) → out_of_bounds b ≡ false → InBounds b
unfolding out_of_bounds
in_bounds b h =
    let s = b.slots in
    let lengths = neither (bad_lengths (count s) (length s.events) (length s.statuses) (length s.marks)) _ h in
    let rest = neither (bad_record b.node) (bad_slots b.node.state s) lengths.1 in
    let l = lengths_good (count s) (length s.events) (length s.statuses) (length s.marks) lengths.0 in
    record {
      events = l.0;
      statuses = l.1;
      marks = l.2;
      few = l.3;
      automatic = not-false _ (neither (ltb 1 b.node.state) (not (has_number b.node.automatic)) rest.0).1;
      slots = rest.1;
    }

pub below_none : (n : ℕ) (test : ℕ → Bool) (i : ℕ) → any_below n test ≡ false → i < n → test i ≡ false
below_none zero test i h l = absurd (not-suc-le-zero l)
below_none (suc n) test i h l =
    let p = neither (test n) (any_below n test) h in
    ⊎_elim (λ e. ap test e ∙ p.0) (below_none n test i p.1) (eq-or-lt_of_le (le_of_suc-le-suc l))

-- Every role is one of the two.
pub role_small : (b : Board) → out_of_bounds b ≡ false → (i : ℕ) → role_of b.slots i ≤ 1
role_small b h i = go (leb (count b.slots) i) refl
  where
    go : (t : Bool) → leb (count b.slots) i ≡ t → role_of b.slots i ≤ 1
    go true e = let none = get_or-eq_default b.slots.roles 0 {n = i} (leb-true (count b.slots) i e) in omega (arith, none)
    go false e =
        let s = b.slots in
        let good = below_none (count s) (λ i. bad_slot b.node.state (role_of s i) (status_of s i) (mark_of s i)) i (in_bounds b h).slots (leb-false (count s) i e) in
        ltb-false 1 (role_of s i) (neither (ltb 1 (role_of s i)) _ good).0
