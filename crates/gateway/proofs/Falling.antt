-- By how much the numbers of the lines before a place fall, while lines are taken out: what stays of them is counted.
use Prim.Native.Nat.{ℕ, zero, suc, ◌+◌, ◌-◌, ◌<◌}
use mathlib.Core.Path.{◌≡◌, refl, sym, ap, ◌∙◌}
use mathlib.Core.Logic.{⊎_elim}
use mathlib.Core.Bool.{Bool, true, false, cond, not}
use mathlib.Core.List.{List, [], ◌∷◌}
use native.Mathlib.Nat.{eq-or-lt_of_le, le_of_suc-le-suc}
use native.Mathlib.Omega.{arith}
use borrow.Author.Tests.{eqb-true, not-false}
use lib.Dec.{eqb}
use lib.ListN.{length, get_or, set}
use lib.Seq.{get_or-set_same, get_or-set_other}
use Rattle.basics.specs.Lists.{any}
use Rattle.basics.proofs.Bools.{neither}
use Rattle.index_rules.specs.Agreeing.{rank, Falls}
use Rattle.index_rules.proofs.Ranks.{rank_same, rank_all, rank_goes, rank_stays}
use Rattle.gateway.specs.Indexing.{Level}

-- Of the first i numbers; j of the lines stay.
pub record Fallen (gone : ℕ → Bool) (falls : List ℕ) (i j : ℕ) : Type 0 where
  pub far : Falls gone i falls
  pub stay : j ≡ rank gone i

-- A list of zeros, by looking at each.
pub zeros_level : (xs : List ℕ) → any (λ x. not (eqb x 0)) xs ≡ false → Level xs
zeros_level xs e = record { still = go xs e }
  where
    go : (xs : List ℕ) → any (λ x. not (eqb x 0)) xs ≡ false → (p : ℕ) → get_or xs p 0 ≡ 0
    go [] e p = refl
    go (x ∷ xs) e zero = eqb-true x 0 (not-false (eqb x 0) (neither (not (eqb x 0)) (any (λ x. not (eqb x 0)) xs) e).0)
    go (x ∷ xs) e (suc p) = go xs (neither (not (eqb x 0)) (any (λ x. not (eqb x 0)) xs) e).1 p

-- Before the first that goes no number falls.
pub none_fallen : (gone : ℕ → Bool) (falls : List ℕ) (n : ℕ) → Level falls → ((p : ℕ) → p < n → gone p ≡ false) → Fallen gone falls n n
none_fallen gone falls n level none = record {
  far = record { by = λ p l. level.still p ∙ sym (ap (λ (t : Bool). cond t 256 (p - rank gone p)) (none p l) ∙ ap (λ (k : ℕ). p - k) (all p (λ q k. none q (omega arith))) ∙ omega arith) };
  stay = sym (all n none);
}
  where
    all : (m : ℕ) → ((p : ℕ) → p < m → gone p ≡ false) → rank gone m ≡ m
    all m h = rank_same gone (λ _. false) m h ∙ rank_all m

module _ (gone : ℕ → Bool) (falls : List ℕ) (i j v : ℕ) (f : Fallen gone falls i j) (room : i < length falls) (written : v ≡ cond (gone i) 256 (i - rank gone i)) where
  one_more : Falls gone (i + 1) (set falls i v)
  one_more = record {
    by = λ p l.
        ⊎_elim
        (λ e. ap (λ (k : ℕ). get_or (set falls i v) k 0) e ∙ get_or-set_same falls i v 0 room ∙ written ∙ sym (ap (λ (k : ℕ). cond (gone k) 256 (k - rank gone k)) e))
        (λ k. get_or-set_other falls i p v 0 (λ e. omega (arith, e, k)) ∙ f.far.by p k)
        (eq-or-lt_of_le (le_of_suc-le-suc (before p l)));
  }
    where
      before : (p : ℕ) → p < i + 1 → p < suc i
      before p l = omega (arith, l)

pub gone_fallen : (gone : ℕ → Bool) (falls : List ℕ) (i j : ℕ) → Fallen gone falls i j → i < length falls → gone i ≡ true → Fallen gone (set falls i 256) (i + 1) j
gone_fallen gone falls i j f room e = record {
  far = one_more gone falls i j 256 f room (sym (ap (λ (t : Bool). cond t 256 (i - rank gone i)) e));
  stay = f.stay ∙ sym (rank_goes gone i e);
}

pub kept_fallen : (gone : ℕ → Bool) (falls : List ℕ) (i j v : ℕ) → Fallen gone falls i j → i < length falls → gone i ≡ false → v ≡ i - j → Fallen gone (set falls i v) (i + 1) (j + 1)
kept_fallen gone falls i j v f room e w = record {
  far = one_more gone falls i j v f room (w ∙ ap (λ (k : ℕ). i - k) f.stay ∙ sym (ap (λ (t : Bool). cond t 256 (i - rank gone i)) e));
  stay = ap (λ (k : ℕ). k + 1) f.stay ∙ sym (rank_stays gone i e);
}
