-- How many of the numbers below one stay.
use Prim.Native.Nat.{ℕ, zero, suc, ◌+◌, ◌≤◌, ◌<◌, zero-le}
use mathlib.Core.Path.{◌≡◌, refl, sym, ap, ap₂, ◌∙◌, subst}
use mathlib.Core.Logic.{⊎_elim}
use mathlib.Core.Bool.{Bool, true, false, cond}
use native.Mathlib.Nat.{eq-or-lt_of_le, le_of_suc-le-suc, not-suc-le-zero, le_refl}
use native.Mathlib.Numerals.{add-one}
use native.Mathlib.Omega.{arith}
use Rattle.index_rules.specs.Agreeing.{rank}
use Rattle.index_rules.proofs.Comparing.{less_or_not}

pub rank_same : (g h : ℕ → Bool) (n : ℕ) → ((i : ℕ) → i < n → g i ≡ h i) → rank g n ≡ rank h n
rank_same g h zero e = refl
rank_same g h (suc n) e = ap₂ (λ (x : ℕ) (t : Bool). x + cond t 0 1) (rank_same g h n (λ i l. e i (omega arith))) (e n (le_refl (suc n)))

module _ (gone : ℕ → Bool) where
  -- ---- one number more

  pub rank_stays : (p : ℕ) → gone p ≡ false → rank gone (p + 1) ≡ rank gone p + 1
  rank_stays p e = ap (rank gone) (add-one p) ∙ ap (λ (t : Bool). rank gone p + cond t 0 1) e

  pub rank_goes : (p : ℕ) → gone p ≡ true → rank gone (p + 1) ≡ rank gone p
  rank_goes p e = ap (rank gone) (add-one p) ∙ ap (λ (t : Bool). rank gone p + cond t 0 1) e ∙ omega arith

  one_more : (p : ℕ) → (rank gone p ≤ rank gone (suc p)) × (rank gone (suc p) ≤ suc (rank gone p))
  one_more p = go (gone p)
    where
      go : (t : Bool) → (rank gone p ≤ rank gone p + cond t 0 1) × (rank gone p + cond t 0 1 ≤ suc (rank gone p))
      go true = (omega arith, omega arith)
      go false = (omega arith, omega arith)

  -- ---- any number

  pub rank_le : (p : ℕ) → rank gone p ≤ p
  rank_le zero = zero-le
  rank_le (suc p) = omega (arith, rank_le p, (one_more p).1)

  pub rank_rises : (p q : ℕ) → p ≤ q → rank gone p ≤ rank gone q
  rank_rises p zero l = let e : p ≡ 0 = omega arith in subst (λ (x : ℕ). rank gone x ≤ 0) (sym e) zero-le
  rank_rises p (suc q) l =
      ⊎_elim (λ e. subst (λ (x : ℕ). rank gone p ≤ rank gone x) e (le_refl (rank gone p)))
      (λ k. omega (arith, rank_rises p q (le_of_suc-le-suc k), (one_more q).0))
      (eq-or-lt_of_le l)

  pub rank_below : (p q : ℕ) → gone p ≡ false → p < q → rank gone p < rank gone q
  rank_below p q e l = omega (arith, rank_rises (p + 1) q (omega arith), rank_stays p e)

-- The one that stays and has a given new number.
pub record Kept (gone : ℕ → Bool) (n new : ℕ) : Type 0 where
  pub old : ℕ
  pub there : old < n
  pub stays : gone old ≡ false
  pub is : rank gone old ≡ new

pub kept : (gone : ℕ → Bool) (n new : ℕ) → new < rank gone n → Kept gone n new
kept gone zero new l = absurd (not-suc-le-zero l)
kept gone (suc n) new l = go (gone n) refl l (kept gone n new)
  where
    earlier : Kept gone n new → Kept gone (suc n) new
    earlier k = record { old = k.old; there = omega (arith, k.there); stays = k.stays; is = k.is }

    go : (t : Bool) → gone n ≡ t → new < rank gone n + cond t 0 1 → (new < rank gone n → Kept gone n new) → Kept gone (suc n) new
    go true e l rest = earlier (rest (omega arith))
    go false e l rest =
        ⊎_elim (λ k. earlier (rest k))
        (λ k. record { old = n; there = le_refl (suc n); stays = e; is = omega arith })
        (less_or_not new (rank gone n))

-- ---- ranks where none, all, one more or only the first stay

pub rank_none : (gone : ℕ → Bool) (n : ℕ) → ((i : ℕ) → gone i ≡ true) → rank gone n ≡ 0
rank_none gone zero h = refl
rank_none gone (suc n) h = ap₂ (λ (x : ℕ) (t : Bool). x + cond t 0 1) (rank_none gone n h) (h n)

pub rank_all : (n : ℕ) → rank (λ _. false) n ≡ n
rank_all zero = refl
rank_all (suc n) = omega (arith, rank_all n)

pub all_stay : (gone : ℕ → Bool) (n : ℕ) → n ≤ rank gone n → (p : ℕ) → p < n → gone p ≡ false
all_stay gone zero h p l = absurd (not-suc-le-zero l)
all_stay gone (suc n) h p l = go (gone n) refl h (all_stay gone n)
  where
    go : (t : Bool) → gone n ≡ t → suc n ≤ rank gone n + cond t 0 1 → (n ≤ rank gone n → (q : ℕ) → q < n → gone q ≡ false) → gone p ≡ false
    go true e h rest = absurd (omega (arith, rank_le gone n))
    go false e h rest = ⊎_elim (λ s. ap gone s ∙ e) (rest (omega arith) p) (eq-or-lt_of_le (le_of_suc-le-suc l))

pub rank_one_more : (gone less : ℕ → Bool) (n q : ℕ) → q < n → gone q ≡ true → less q ≡ false → ((p : ℕ) → (q ≡ p → ⊥) → less p ≡ gone p) → rank less n ≡ rank gone n + 1
rank_one_more gone less zero q l goes stays others = absurd (not-suc-le-zero l)
rank_one_more gone less (suc n) q l goes stays others =
    ⊎_elim
    (λ e.
    let same = rank_same less gone n (λ p k. others p (λ z. omega (arith, e, k, z))) in
    ap₂ (λ (x : ℕ) (t : Bool). x + cond t 0 1) same (ap less (sym e) ∙ stays)
    ∙ sym (ap (λ (t : Bool). rank gone n + cond t 0 1 + 1) (ap gone (sym e) ∙ goes) ∙ omega arith))
    (λ k.
    let top = others n (λ z. omega (arith, k, z)) in
    ap₂ (λ (x : ℕ) (t : Bool). x + cond t 0 1) (rank_one_more gone less n q k goes stays others) top ∙ omega arith)
    (eq-or-lt_of_le (le_of_suc-le-suc l))

pub rank_first : (gone : ℕ → Bool) (m n : ℕ) → m ≤ n → ((i : ℕ) → i < m → gone i ≡ false) → ((i : ℕ) → m ≤ i → i < n → gone i ≡ true) → rank gone n ≡ m
rank_first gone m zero l first rest = omega arith
rank_first gone m (suc n) l first rest =
    ⊎_elim
    (λ e. rank_same gone (λ _. false) (suc n) (λ i k. first i (omega (arith, e, k))) ∙ rank_all (suc n) ∙ sym e)
    (λ k.
    ap₂ (λ (x : ℕ) (t : Bool). x + cond t 0 1) (rank_first gone m n (le_of_suc-le-suc k) first (λ i a b. rest i a (omega (arith, b)))) (rest n (le_of_suc-le-suc k) (le_refl (suc n)))
    ∙ omega arith)
    (eq-or-lt_of_le l)
