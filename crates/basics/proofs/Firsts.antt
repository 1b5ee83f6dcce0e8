-- The first test that applies: what the list answers, and that it is given exactly when document 01 says.
use Prim.Native.Nat.{ℕ, zero, suc, ◌≤◌, zero-le}
use mathlib.Core.Path.{◌≡◌, refl, sym, ap, ◌∙◌}
use mathlib.Core.Logic.{◌↔◌}
use mathlib.Core.Bool.{Bool, true, false, cond, not}
use mathlib.Core.List.{List, [], ◌∷◌, ◌++◌, append-nil}
use borrow.Author.Tests.{eqb-false, not-true, leb-true}
use lib.Dec.{eqb, leb}
use Rattle.basics.proofs.Bools.{both}
use Rattle.basics.specs.Refusals.{Test, numbered, numbered_up_to, first_of, answered, told, refused, told_by, None, Given}
use Rattle.basics.specs.Refusals.None.{none, passed}

-- Where one list gives a refusal, what follows it does not matter.
pub first_some : (ts us : List Test) → (first_of ts ≡ 0 → ⊥) → first_of (ts ++ us) ≡ first_of ts
first_some [] us h = absurd (h refl)
first_some (t ∷ ts) us h = go t.applies refl (first_some ts us)
  where
    go : (a : Bool) → t.applies ≡ a → ((first_of ts ≡ 0 → ⊥) → first_of (ts ++ us) ≡ first_of ts) → first_of (t ∷ (ts ++ us)) ≡ first_of (t ∷ ts)
    go true e k = rw e
    go false e k = rw e (k (λ z. h (ap (λ (b : Bool). cond b t.number (first_of ts)) e ∙ z)))

-- Tests that do not apply are passed over.
pub first_after : {ts : List Test} → None ts → (us : List Test) → first_of (ts ++ us) ≡ first_of us
first_after none us = refl
first_after (passed e r) us = rw e (first_after r us)

pub first_passed : {t : Test} {ts : List Test} → None (t ∷ ts) → t.applies ≡ false
first_passed (passed e r) = e

pub rest_passed : {t : Test} {ts : List Test} → None (t ∷ ts) → None ts
rest_passed (passed e r) = r

none_of : (ts : List Test) → numbered ts ≡ true → first_of ts ≡ 0 → None ts
none_of [] n z = none
none_of (t ∷ ts) n z = go t.applies refl (none_of ts parts.1)
  where
    parts : (not (eqb t.number 0) ≡ true) × (numbered ts ≡ true)
    parts = both (not (eqb t.number 0)) (numbered ts) n

    go : (a : Bool) → t.applies ≡ a → (first_of ts ≡ 0 → None ts) → None (t ∷ ts)
    go true e k = absurd (eqb-false t.number 0 (not-true (eqb t.number 0) parts.0) (sym (ap (λ (b : Bool). cond b t.number (first_of ts)) e) ∙ z))
    go false e k = passed e (k (sym (ap (λ (b : Bool). cond b t.number (first_of ts)) e) ∙ z))

given_of_lem : (ts : List Test) (n : ℕ) → (n ≡ 0 → ⊥) → first_of ts ≡ n → Given n ts
given_of_lem [] n p e = absurd (p (sym e))
given_of_lem (t ∷ ts) n p e = go t.applies refl (given_of_lem ts n p)
  where
    go : (a : Bool) → t.applies ≡ a → (first_of ts ≡ n → Given n ts) → Given n (t ∷ ts)
    go true f k = record {
      before = [];
      test = t;
      after = ts;
      order = refl;
      earlier = none;
      here = f;
      numbered = sym (ap (λ (b : Bool). cond b t.number (first_of ts)) f) ∙ e;
    }
    go false f k =
        let g = k (sym (ap (λ (b : Bool). cond b t.number (first_of ts)) f) ∙ e) in
        record {
          before = t ∷ g.before;
          test = g.test;
          after = g.after;
          order = ap (λ (l : List Test). t ∷ l) g.order;
          earlier = passed f g.earlier;
          here = g.here;
          numbered = g.numbered;
        }

-- 0 is answered exactly where none of the tests applies.
pub first_none : (ts : List Test) → numbered ts ≡ true → (first_of ts ≡ 0) ↔ None ts
first_none ts n = (none_of ts n, λ r. ap first_of (sym (append-nil ts)) ∙ first_after r [])

-- A refusal is given exactly where a test with its number applies and none before it does.
pub first_given : (ts : List Test) (n : ℕ) → (n ≡ 0 → ⊥) → (first_of ts ≡ n) ↔ Given n ts
first_given ts n p = (
  given_of_lem ts n p,
  λ g. ap first_of g.order ∙ first_after g.earlier (g.test ∷ g.after) ∙ ap (λ (b : Bool). cond b g.test.number (first_of g.after)) g.here ∙ g.numbered,
)

-- ---- how large a refusal's number is

pub first_up_to : (n : ℕ) (ts : List Test) → numbered_up_to n ts ≡ true → first_of ts ≤ n
first_up_to n [] h = zero-le
first_up_to n (t ∷ ts) h = go t.applies (both (leb t.number n) (numbered_up_to n ts) h) (first_up_to n ts)
  where
    go : (a : Bool) → (leb t.number n ≡ true) × (numbered_up_to n ts ≡ true) → (numbered_up_to n ts ≡ true → first_of ts ≤ n) → cond a t.number (first_of ts) ≤ n
    go true p k = leb-true t.number n p.0
    go false p k = k p.1

-- ---- answers

pub answered_yes : {A R : Type 0} (accept : A → R) (reject : ℕ → R) {n : ℕ} (x : A) → n ≡ 0 → answered accept reject n x ≡ accept x
answered_yes accept reject x e = rw e

pub answered_no : {A R : Type 0} (accept : A → R) (reject : ℕ → R) (n : ℕ) (x : A) → (n ≡ 0 → ⊥) → answered accept reject n x ≡ reject n
answered_no accept reject zero x h = absurd (h refl)
answered_no accept reject (suc n) x h = refl

-- The number that tests in an order tell is the first test's that applies.
pub told_number_lem : {A : Type 0} (ts : List Test) (x : A) → (told_by ts x).refusal ≡ first_of ts
told_number_lem ts x = go (first_of ts)
  where
    go : (n : ℕ) → (answered (λ y. told (y ∷ [])) (λ k. refused k []) n x).refusal ≡ n
    go zero = refl
    go (suc n) = refl

-- Given exactly when, for any answer whose cases can be told apart.
module _ {A R : Type 0} (accept : A → R) (reject : ℕ → R) (apart : (x : A) (n : ℕ) → accept x ≡ reject n → ⊥) where
  number_of : ((m n : ℕ) → reject m ≡ reject n → m ≡ n) → (k n : ℕ) (x : A) → answered accept reject k x ≡ reject n → k ≡ n
  number_of once zero n x e = absurd (apart x n e)
  number_of once (suc k) n x e = once (suc k) n e

  value_of : ((x y : A) → accept x ≡ accept y → x ≡ y) → (k : ℕ) (x y : A) → answered accept reject k x ≡ accept y → (k ≡ 0) × (y ≡ x)
  value_of once zero x y e = (refl, sym (once x y e))
  value_of once (suc k) x y e = absurd (apart y (suc k) (sym e))

  pub refused_exactly : ((m n : ℕ) → reject m ≡ reject n → m ≡ n) → (ts : List Test) (x : A) (n : ℕ) → (n ≡ 0 → ⊥)
      → (answered accept reject (first_of ts) x ≡ reject n) ↔ Given n ts
  refused_exactly once ts x n p = (
    λ e. (first_given ts n p).0 (number_of once (first_of ts) n x e),
    λ g. ap (λ (k : ℕ). answered accept reject k x) ((first_given ts n p).1 g) ∙ answered_no accept reject n x p,
  )

  pub accepted_exactly : ((x y : A) → accept x ≡ accept y → x ≡ y) → (ts : List Test) → numbered ts ≡ true → (x y : A)
      → (answered accept reject (first_of ts) x ≡ accept y) ↔ (None ts × (y ≡ x))
  accepted_exactly once ts n x y = (
    λ e. let h = value_of once (first_of ts) x y e in ((first_none ts n).0 h.0, h.1),
    λ h. answered_yes accept reject x ((first_none ts n).1 h.0) ∙ ap accept (sym h.1),
  )
