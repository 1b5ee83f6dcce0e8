-- A size put into the sets: one more bit in the set of its port, or a port's in the set of those with the whole space.
use Prim.Native.Nat.{ℕ, ◌^◌, ◌≤◌, ◌<◌}
use mathlib.Core.Path.{◌≡◌, refl, sym, ap, ◌∙◌, subst}
use mathlib.Core.Bool.{Bool, true, false, ◌&&◌, ◌||◌, and-false, and-true, or-false}
use mathlib.Core.List.{List}
use native.Mathlib.Omega.{arith}
use borrow.Author.Tests.{eqb-true, eqb-false, eq-eqb, ne_eqb}
use lib.Dec.{eqb}
use lib.ListN.{length, get_or, set, length-set}
use lib.Pow.{pow_mono}
use lib.Seq.{get_or-set_same, get_or-set_other}
use Rattle.basics.specs.Sets.{set_of, in_set}
use Rattle.basics.proofs.Sets.{set_below, set_ext, set_put, set_had, member_of_set}
use Rattle.index_rules.specs.Index.{size_sets}
use Rattle.gateway.proofs.Bits.{in_put, in_had}
use Rattle.index_rules.proofs.SizeSets.{nine, set_of_port, set_of_whole, nine_sets}

-- A bit put into a word that is a set of fewer.
bit_put : (w : ℕ) (f : ℕ → Bool) (b : ℕ) → w ≤ 64 → b < w → set_of 64 (λ j. in_set (set_of w f) j || eqb b j) ≡ set_of w (λ j. f j || eqb b j)
bit_put w f b h l = go (f b) refl
  where
    fits : set_of w f < 2 ^ 64
    fits = let most : 2 ^ w ≤ 2 ^ 64 = pow_mono h in omega (arith, most, set_below w f)

    go : (t : Bool) → f b ≡ t → set_of 64 (λ j. in_set (set_of w f) j || eqb b j) ≡ set_of w (λ j. f j || eqb b j)
    go true e = sym (in_had 64 (set_of w f) b fits (member_of_set w f b l ∙ e)) ∙ set_had w f b e
    go false e = sym (in_put 64 (set_of w f) b fits (omega (arith, h, l)) (member_of_set w f b l ∙ e)) ∙ set_put w f b l e

-- One place written.
module _ (before after : List ℕ) (place bit : ℕ) (s : after ≡ set before place (set_of 64 (λ j. in_set (get_or before place 0) j || eqb bit j))) where
  as_long : length after ≡ length before
  as_long = ap length s ∙ length-set before place _

  elsewhere : (i : ℕ) → (i ≡ place → ⊥) → get_or after i 0 ≡ get_or before i 0
  elsewhere i d = ap (λ (xs : List ℕ). get_or xs i 0) s ∙ get_or-set_other before place i _ 0 d

  there : (w : ℕ) (f : ℕ → Bool) → w ≤ 64 → bit < w → place < length before → get_or before place 0 ≡ set_of w f → get_or after place 0 ≡ set_of w (λ j. f j || eqb bit j)
  there w f h l b e =
      ap (λ (xs : List ℕ). get_or xs place 0) s
      ∙ get_or-set_same before place _ 0 b
      ∙ ap (λ (x : ℕ). set_of 64 (λ j. in_set x j || eqb bit j)) e
      ∙ bit_put w f bit h l

module _ (f : ℕ → ℕ → Bool) (p k : ℕ) where
  abbrev more : ℕ → ℕ → Bool
  more q j = f q j || (eqb p q && eqb k j)

  -- Nothing more at another port, or of another size.
  other_port : (q j : ℕ) → (p ≡ q → ⊥) → f q j ≡ more q j
  other_port q j d = sym (ap (λ (t : Bool). f q j || (t && eqb k j)) (ne_eqb p q d) ∙ or-false (f q j))

  other_size : (q j : ℕ) → (k ≡ j → ⊥) → f q j ≡ more q j
  other_size q j d =
      sym (ap (λ (t : Bool). f q j || (eqb p q && t)) (ne_eqb k j d) ∙ ap (λ (t : Bool). f q j || t) (and-false (eqb p q)) ∙ or-false (f q j))

  here_port : (j : ℕ) → (f p j || eqb k j) ≡ more p j
  here_port j = sym (ap (λ (t : Bool). f p j || (t && eqb k j)) (eq-eqb p p refl))

  here_size : (q : ℕ) → (f q k || eqb p q) ≡ more q k
  here_size q = sym (ap (λ (t : Bool). f q k || (eqb p q && t)) (eq-eqb k k refl) ∙ ap (λ (t : Bool). f q k || t) (and-true (eqb p q)))

  module _ (before after : List ℕ) (e : before ≡ size_sets f) where
    long : length before ≡ 9
    long = ap length e ∙ nine f

    port_before : (q : ℕ) → q < 8 → get_or before q 0 ≡ set_of 64 (f q)
    port_before q l = ap (λ (xs : List ℕ). get_or xs q 0) e ∙ set_of_port f q l

    whole_before : get_or before 8 0 ≡ set_of 8 (λ q. f q 64)
    whole_before = ap (λ (xs : List ℕ). get_or xs 8 0) e ∙ set_of_whole f

    -- A size below 64 goes into the set of its port.
    pub small_put : p < 8 → k < 64 → after ≡ set before p (set_of 64 (λ j. in_set (get_or before p 0) j || eqb k j)) → after ≡ size_sets more
    small_put l b s = nine_sets more after (as_long before after p k s ∙ long) (λ q m. ports q m (eqb p q) refl) whole
      where
        here : get_or after p 0 ≡ set_of 64 (more p)
        here =
            there before after p k s 64 (f p) (omega arith) b (omega (arith, l, long)) (port_before p l)
            ∙ set_ext 64 (λ j. f p j || eqb k j) (more p) (λ j _. here_port j)

        ports : (q : ℕ) → q < 8 → (t : Bool) → eqb p q ≡ t → get_or after q 0 ≡ set_of 64 (more q)
        ports q m true z = subst (λ (x : ℕ). get_or after x 0 ≡ set_of 64 (more x)) (eqb-true p q z) here
        ports q m false z =
            elsewhere before after p k s q (λ y. eqb-false p q z (sym y))
            ∙ port_before q m
            ∙ set_ext 64 (f q) (more q) (λ j _. other_port q j (eqb-false p q z))

        whole : get_or after 8 0 ≡ set_of 8 (λ q. more q 64)
        whole =
            elsewhere before after p k s 8 (λ y. omega (arith, y, l))
            ∙ whole_before
            ∙ set_ext 8 (λ q. f q 64) (λ q. more q 64) (λ q _. other_size q 64 (λ y. omega (arith, y, b)))

    -- The whole space: its port goes into the set behind.
    pub whole_put : p < 8 → k ≡ 64 → after ≡ set before 8 (set_of 64 (λ q. in_set (get_or before 8 0) q || eqb p q)) → after ≡ size_sets more
    whole_put l is s = nine_sets more after (as_long before after 8 p s ∙ long) ports whole
      where
        ports : (q : ℕ) → q < 8 → get_or after q 0 ≡ set_of 64 (more q)
        ports q m =
            elsewhere before after 8 p s q (λ y. omega (arith, y, m))
            ∙ port_before q m
            ∙ set_ext 64 (f q) (more q) (λ j b. other_size q j (λ y. omega (arith, y, is, b)))

        whole : get_or after 8 0 ≡ set_of 8 (λ q. more q 64)
        whole =
            there before after 8 p s 8 (λ q. f q 64) (omega arith) l (omega (arith, long)) whole_before
            ∙ set_ext 8 (λ q. f q 64 || eqb p q) (λ q. more q 64) (λ q _. subst (λ (j : ℕ). (f q j || eqb p q) ≡ more q j) is (here_size q))
