-- A line that holds an event is the block of its size that begins where the event's does, so the sizes that occur at a port are enough.
use Prim.Native.Nat.{ℕ, ◌*◌, ◌/◌, ◌%◌, ◌^◌, ◌<◌}
use mathlib.Core.Path.{◌≡◌, refl, sym, ap, ap₂, ◌∙◌, subst}
use mathlib.Core.Logic.{⊎_elim}
use mathlib.Core.Bool.{Bool, true, false, ◌&&◌, ◌||◌, or-true}
use mathlib.Core.List.{List}
use native.Mathlib.Nat.{eq-or-lt_of_le, mod-eq_of_lt}
use native.Mathlib.Omega.{arith}
use borrow.Author.Tests.{eqb-true, eq-eqb}
use lib.Dec.{eqb}
use lib.ListN.{get_or}
use lib.Pow.{split}
use Rattle.range.specs.Range.{in_block}
use Rattle.range.proofs.Laws.{block_parts, in_block_above}
use Rattle.basics.specs.Sets.{any_below, in_set}
use Rattle.basics.proofs.Bools.{both, same_truth}
use Rattle.basics.proofs.Below.{one_passes}
use Rattle.basics.proofs.Sets.{member_of_set}
use Rattle.index_rules.proofs.Passing.{one_found}
use Rattle.gateway.specs.Indexing.{block_in, occurs_in, placed_in, holding_in, Blocks, Indexed}
use Rattle.index_rules.proofs.SizeSets.{set_of_port, set_of_whole}

-- The block of size k that an event is in stands at a port.
abbrev pub around_in : ℕ → List ℕ → List ℕ → List ℕ → ℕ → ℕ → ℕ → Bool
around_in n starts ports sizes port e k = placed_in n starts ports sizes port k (e / 2 ^ k * 2 ^ k)

-- Where it begins is what is left of the event when its low k bits are shifted out and zeros in.
pub shifted_back : (w e k : ℕ) → e < 2 ^ w → (e / 2 ^ k * 2 ^ k) % 2 ^ w ≡ e / 2 ^ k * 2 ^ k
shifted_back w e k l = mod-eq_of_lt (omega (arith, split e k))

module _ (n : ℕ) (starts ports sizes : List ℕ) (port e : ℕ) (e-fits : e < 2 ^ 64) (starts_fit : (i : ℕ) → get_or starts i 0 < 2 ^ 64) (b : Blocks n starts sizes) where
  abbrev of_port : ℕ → Bool
  of_port i = eqb (get_or ports i 0) port

  abbrev of_size : ℕ → ℕ → Bool
  of_size k i = eqb (get_or sizes i 0) k

  abbrev begins : ℕ → ℕ → Bool
  begins k i = eqb (get_or starts i 0) (e / 2 ^ k * 2 ^ k)

  abbrev holds : ℕ → Bool
  holds i = of_port i && in_block (block_in starts sizes i) e

  -- A line of the port that begins where the event's block of its size does holds the event ..
  begins_holds : (i k : ℕ) → i < n → of_port i ≡ true → get_or sizes i 0 ≡ k → get_or starts i 0 ≡ e / 2 ^ k * 2 ^ k → any_below n holds ≡ true
  begins_holds i k l p s t =
      let at = e / 2 ^ get_or sizes i 0 * 2 ^ get_or sizes i 0 in
      let here = in_block_above (block_in starts sizes i) e (b.block i l) ∙ eq-eqb at (get_or starts i 0) (ap (λ (j : ℕ). e / 2 ^ j * 2 ^ j) s ∙ sym t) in
      one_passes n holds i l (rw (p, here))

  around_holds : (k : ℕ) → around_in n starts ports sizes port e k ≡ true → any_below n holds ≡ true
  around_holds k t =
      let f = one_found n (λ i. (of_port i && of_size k i) && begins k i) t in
      let i = f.place in
      let s = both (of_port i && of_size k i) (begins k i) f.passes in
      let u = both (of_port i) (of_size k i) s.0 in
      begins_holds i k f.there u.0 (eqb-true (get_or sizes i 0) k u.1) (eqb-true (get_or starts i 0) (e / 2 ^ k * 2 ^ k) s.1)

  -- .. and one that holds it is of a size that occurs, and begins there.
  holds_around : (i : ℕ) → i < n → holds i ≡ true → (occurs_in n ports sizes port (get_or sizes i 0) ≡ true) × (around_in n starts ports sizes port e (get_or sizes i 0) ≡ true)
  holds_around i l t =
      let k = get_or sizes i 0 in
      let h = both (of_port i) (in_block (block_in starts sizes i) e) t in
      let at = sym (eqb-true (e / 2 ^ k * 2 ^ k) (get_or starts i 0) (sym (in_block_above (block_in starts sizes i) e (b.block i l)) ∙ h.1)) in
      let size : (of_port i && of_size k i) ≡ true = ap₂ (λ (u v : Bool). u && v) h.0 (eq-eqb k k refl) in (
        one_passes n (λ j. of_port j && of_size k j) i l size,
        one_passes n (λ j. (of_port j && of_size k j) && begins k j) i l (ap₂ (λ (u v : Bool). u && v) size (eq-eqb (get_or starts i 0) (e / 2 ^ k * 2 ^ k) at)),
      )

  -- The whole space begins at 0, and every event is in it.
  whole_holds : occurs_in n ports sizes port 64 ≡ true → any_below n holds ≡ true
  whole_holds t =
      let f = one_found n (λ i. of_port i && of_size 64 i) t in
      let i = f.place in
      let u = both (of_port i) (of_size 64 i) f.passes in
      let s = eqb-true (get_or sizes i 0) 64 u.1 in
      let aligned = subst (λ (k : ℕ). get_or starts i 0 % 2 ^ k ≡ 0) s (block_parts (block_in starts sizes i) (b.block i f.there)).1 in
      begins_holds i 64 f.there u.0 s (omega (arith, aligned, starts_fit i))

  -- ---- by the index

  module _ (order sets : List ℕ) (x : Indexed n starts ports sizes order sets) (l : port < 8) where
    abbrev looked : ℕ → Bool
    looked k = in_set (get_or sets port 0) k && around_in n starts ports sizes port e k

    in_the_set : (k : ℕ) → k < 64 → in_set (get_or sets port 0) k ≡ occurs_in n ports sizes port k
    in_the_set k m =
        ap (λ (s : ℕ). in_set s k) (ap (λ (xs : List ℕ). get_or xs port 0) x.occurring ∙ set_of_port (occurs_in n ports sizes) port l)
        ∙ member_of_set 64 (occurs_in n ports sizes port) k m

    whole_there : in_set (get_or sets 8 0) port ≡ occurs_in n ports sizes port 64
    whole_there =
        ap (λ (s : ℕ). in_set s port) (ap (λ (xs : List ℕ). get_or xs 8 0) x.occurring ∙ set_of_whole (occurs_in n ports sizes))
        ∙ member_of_set 8 (λ p. occurs_in n ports sizes p 64) port l

    by_size_lem : (any_below 64 looked || occurs_in n ports sizes port 64) ≡ holding_in n starts ports sizes port e
    by_size_lem = same_truth (any_below 64 looked || occurs_in n ports sizes port 64) (any_below n holds) (there (any_below 64 looked) refl) back
      where
        there : (t : Bool) → any_below 64 looked ≡ t → (t || occurs_in n ports sizes port 64) ≡ true → any_below n holds ≡ true
        there true f _ = let w = one_found 64 looked f in around_holds w.place (both (in_set (get_or sets port 0) w.place) (around_in n starts ports sizes port e w.place) w.passes).1
        there false f t = whole_holds t

        back : any_below n holds ≡ true → (any_below 64 looked || occurs_in n ports sizes port 64) ≡ true
        back t =
            let f = one_found n holds t in
            let k = get_or sizes f.place 0 in
            let h = holds_around f.place f.there f.passes in
            ⊎_elim
            (λ s. ap (λ (u : Bool). any_below 64 looked || u) (subst (λ (j : ℕ). occurs_in n ports sizes port j ≡ true) s h.0) ∙ or-true (any_below 64 looked))
            (λ m. ap (λ (u : Bool). u || occurs_in n ports sizes port 64) (one_passes 64 looked k m (ap₂ (λ (u v : Bool). u && v) (in_the_set k m ∙ h.0) h.1)))
            (eq-or-lt_of_le (block_parts (block_in starts sizes f.place) (b.block f.place f.there)).0)

    pub found_below : any_below 64 looked ≡ true → true ≡ holding_in n starts ports sizes port e
    found_below t = sym (ap (λ (u : Bool). u || occurs_in n ports sizes port 64) t) ∙ by_size_lem

    pub whole_last : any_below 64 looked ≡ false → in_set (get_or sets 8 0) port ≡ holding_in n starts ports sizes port e
    whole_last f = whole_there ∙ sym (ap (λ (u : Bool). u || occurs_in n ports sizes port 64) f) ∙ by_size_lem
