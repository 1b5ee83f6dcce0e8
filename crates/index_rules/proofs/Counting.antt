-- Places that name different numbers, counted: as many numbers are named as there are places, so n places below n name them all.
use Prim.Native.Nat.{ℕ, zero, suc, ◌+◌, ◌<◌}
use mathlib.Core.Path.{◌≡◌, refl, sym, ap, ap₂, ◌∙◌}
use mathlib.Core.Bool.{Bool, true, false, cond, not, ◌||◌, or-true, or-false}
use native.Mathlib.Nat.{le_refl}
use native.Mathlib.Omega.{arith}
use borrow.Author.Tests.{eqb-true, eq-eqb, ne_eqb, not-false}
use lib.Dec.{eqb}
use Rattle.basics.specs.Sets.{any_below}
use Rattle.index_rules.specs.Agreeing.{rank}
use Rattle.index_rules.proofs.Passing.{one_found, none_passes}
use Rattle.index_rules.proofs.Ranks.{rank_same, rank_none, rank_all, all_stay, rank_one_more}

abbrev pub Apart : ℕ → (ℕ → ℕ) → Type 0
Apart n at = (i j : ℕ) → i < n → j < n → at i ≡ at j → i ≡ j

pub record Named (n : ℕ) (at : ℕ → ℕ) (p : ℕ) : Type 0 where
  pub place : ℕ
  pub there : place < n
  pub names : at place ≡ p

abbrev named : ℕ → (ℕ → ℕ) → ℕ → Bool
named m at p = any_below m (λ i. eqb (at i) p)

-- A number goes, or none of the first m places names it.
abbrev outside : (ℕ → Bool) → ℕ → (ℕ → ℕ) → ℕ → Bool
outside gone m at p = gone p || not (named m at p)

-- Of the numbers below n, as many stay and are named as there are places that name one that stays.
counted : (gone : ℕ → Bool) (n : ℕ) (at : ℕ → ℕ) (m : ℕ) → ((i : ℕ) → i < m → at i < n) → Apart m at
    → rank (λ i. gone (at i)) m ≡ rank (outside gone m at) n
counted gone n at zero below apart = sym (rank_none (outside gone zero at) n (λ p. or-true (gone p)))
counted gone n at (suc m) below apart =
    ap (λ (x : ℕ). x + cond (gone (at m)) 0 1) (counted gone n at m (λ i l. below i (omega arith)) (λ i j k l. apart i j (omega arith) (omega arith)))
    ∙ go (gone (at m)) refl
  where
    before : ℕ → Bool
    before = outside gone m at

    after : ℕ → Bool
    after = outside gone (suc m) at

    others : (p : ℕ) → (at m ≡ p → ⊥) → after p ≡ before p
    others p d = ap (λ (t : Bool). gone p || not (t || named m at p)) (ne_eqb (at m) p d)

    new : named m at (at m) ≡ false
    new = none_passes m (λ i. eqb (at i) (at m)) (λ i l. ne_eqb (at i) (at m) (λ e. omega (arith, l, apart i m (omega arith) (omega arith) e)))

    go : (t : Bool) → gone (at m) ≡ t → rank before n + cond t 0 1 ≡ rank after n
    go true e = omega (arith, rank_same after before n (λ p _. by p (eqb (at m) p) refl))
      where
        by : (p : ℕ) (t : Bool) → eqb (at m) p ≡ t → after p ≡ before p
        by p true s = let here : gone p ≡ true = ap gone (sym (eqb-true (at m) p s)) ∙ e in rw here
        by p false s = rw s
    go false e =
        let goes : before (at m) ≡ true = ap (λ (t : Bool). gone (at m) || not t) new ∙ or-true (gone (at m)) in
        let stays : after (at m) ≡ false = ap₂ (λ (s t : Bool). s || not (t || named m at (at m))) e (eq-eqb (at m) (at m) refl) in
        sym (rank_one_more before after n (at m) (below m (le_refl (suc m))) goes stays others)

-- n places that name different numbers below n.
module _ (n : ℕ) (at : ℕ → ℕ) (below : (i : ℕ) → i < n → at i < n) (apart : Apart n at) where
  is_named : (p : ℕ) → p < n → named n at p ≡ true
  is_named p l =
      let all = counted (λ _. false) n at n below apart in
      not-false (named n at p) (all_stay (outside (λ _. false) n at) n (omega (arith, all, rank_all n)) p l)

  pub all_named : (p : ℕ) → p < n → Named n at p
  all_named p l =
      let f = one_found n (λ i. eqb (at i) p) (is_named p l) in
      record { place = f.place; there = f.there; names = eqb-true (at f.place) p f.passes }

  pub as_many : (gone : ℕ → Bool) → rank (λ i. gone (at i)) n ≡ rank gone n
  as_many gone =
      counted gone n at n below apart
      ∙ rank_same (outside gone n at) gone n (λ p l. ap (λ (t : Bool). gone p || not t) (is_named p l) ∙ or-false (gone p))
