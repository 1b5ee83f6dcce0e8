-- The ports of a set, and those below p that hold something: one port after another.
use Prim.Native.Nat.{ℕ, ◌+◌, ◌<◌}
use mathlib.Core.Path.{◌≡◌, refl, sym, ap, ap₂, ◌∙◌}
use mathlib.Core.Bool.{Bool, true, false, ◌&&◌, ◌||◌, and-true, and-false, or-false, or_assoc}
use native.Mathlib.Omega.{arith}
use borrow.Author.Tests.{eqb-true, eqb-false, ltb-true, ltb-false, lt-ltb, le-ltb}
use lib.Dec.{eqb, ltb}
use Rattle.basics.specs.Sets.{set_of, in_set}
use Rattle.basics.proofs.Sets.{set_ext, set_of_bits, member_of_set}

-- The ports of the set, and those below p that hold.
abbrev pub asked_below : ℕ → (ℕ → Bool) → ℕ → ℕ
asked_below set holds p = set_of 8 (λ q. in_set set q || (ltb q p && holds q))

module _ (set : ℕ) (holds : ℕ → Bool) where
  pub none_asked : set < 256 → set ≡ asked_below set holds 0
  none_asked f =
      sym (set_of_bits 8 set f)
      ∙ set_ext 8 (in_set set) (λ q. in_set set q || (ltb q 0 && holds q))
      (λ q _. sym (ap (λ (t : Bool). in_set set q || (t && holds q)) (le-ltb q 0 (omega arith)) ∙ or-false (in_set set q)))

  pub all_asked : asked_below set holds 8 ≡ set_of 8 (λ q. in_set set q || holds q)
  all_asked =
      set_ext 8 (λ q. in_set set q || (ltb q 8 && holds q)) (λ q. in_set set q || holds q)
      (λ q l. ap (λ (t : Bool). in_set set q || (t && holds q)) (lt-ltb q 8 l))

  -- Below p + 1 are those below p, and p.
  up_to : (p q : ℕ) → ((ltb q p && holds q) || (eqb p q && holds p)) ≡ (ltb q (p + 1) && holds q)
  up_to p q = go (eqb p q) refl (ltb q p) refl
    where
      go : (s : Bool) → eqb p q ≡ s → (t : Bool) → ltb q p ≡ t → ((t && holds q) || (s && holds p)) ≡ (ltb q (p + 1) && holds q)
      go true e true l = let same = eqb-true p q e in let less = ltb-true q p l in absurd (omega (arith, same, less))
      go true e false l = let same = eqb-true p q e in ap₂ (λ (t u : Bool). t && u) (sym (lt-ltb q (p + 1) (omega arith))) (ap holds same)
      go false e true l =
          let less = ltb-true q p l in
          or-false (holds q) ∙ ap (λ (t : Bool). t && holds q) (sym (lt-ltb q (p + 1) (omega arith)))
      go false e false l =
          let other = eqb-false p q e in
          let least = ltb-false q p l in
          ap (λ (t : Bool). t && holds q) (sym (le-ltb q (p + 1) (omega arith)))

  -- One that holds is put in; one that does not changes nothing.
  module _ (p wanted : ℕ) (w : wanted ≡ asked_below set holds p) where
    pub it_holds : holds p ≡ true → set_of 8 (λ q. in_set wanted q || eqb p q) ≡ asked_below set holds (p + 1)
    it_holds h =
        set_ext 8 (λ q. in_set wanted q || eqb p q) (λ q. in_set set q || (ltb q (p + 1) && holds q))
        (λ q l.
        ap₂ (λ (s t : Bool). s || t)
        (ap (λ (x : ℕ). in_set x q) w ∙ member_of_set 8 (λ q. in_set set q || (ltb q p && holds q)) q l)
        (sym (ap (λ (t : Bool). eqb p q && t) h ∙ and-true (eqb p q)))
        ∙ or_assoc (in_set set q) (ltb q p && holds q) (eqb p q && holds p)
        ∙ ap (λ (t : Bool). in_set set q || t) (up_to p q))

    pub it_does_not : holds p ≡ false → wanted ≡ asked_below set holds (p + 1)
    it_does_not h =
        w
        ∙ set_ext 8 (λ q. in_set set q || (ltb q p && holds q)) (λ q. in_set set q || (ltb q (p + 1) && holds q))
        (λ q _.
        let nothing : (eqb p q && holds p) ≡ false = ap (λ (t : Bool). eqb p q && t) h ∙ and-false (eqb p q) in
        ap (λ (t : Bool). in_set set q || t) (sym (ap (λ (t : Bool). (ltb q p && holds q) || t) nothing ∙ or-false (ltb q p && holds q)) ∙ up_to p q))
