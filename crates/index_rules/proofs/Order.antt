-- What agreeing says of the whole order: numbers further on have larger keys, each number is named once, and only one order agrees.
use Prim.Native.Nat.{ℕ, zero, suc, ◌+◌, ◌<◌}
use mathlib.Core.Path.{◌≡◌, sym, ap, ◌∙◌, subst}
use mathlib.Core.Logic.{⊎_elim}
use mathlib.Core.Bool.{Bool}
use native.Mathlib.Nat.{eq-or-lt_of_le, le_of_suc-le-suc, not-suc-le-zero}
use native.Mathlib.Numerals.{add-one}
use native.Mathlib.Omega.{arith}
use borrow.Author.Tests.{le-leb, lt-leb}
use lib.Dec.{leb}
use Rattle.index_rules.specs.Agreeing.{key, Agrees, rank}
use Rattle.index_rules.proofs.Comparing.{less_or_not}
use Rattle.index_rules.proofs.Ranks.{rank_first}
use Rattle.index_rules.proofs.Counting.{Apart, Named, all_named, as_many}

module _ {spotAt : ℕ → ℕ} {n : ℕ} {at : ℕ → ℕ} (a : Agrees spotAt n at) where
  pub further_on : (i j : ℕ) → i < j → j < n → key spotAt (at i) < key spotAt (at j)
  further_on i zero l b = absurd (not-suc-le-zero l)
  further_on i (suc j) l b =
      let next : key spotAt (at j) < key spotAt (at (suc j)) = subst (λ (m : ℕ). key spotAt (at j) < key spotAt (at m)) (add-one j) (a.rising j (omega arith)) in
      ⊎_elim (λ e. subst (λ (m : ℕ). key spotAt (at m) < key spotAt (at (suc j))) (sym e) next)
      (λ k. omega (arith, further_on i j k (omega arith), next))
      (eq-or-lt_of_le (le_of_suc-le-suc l))

  -- A number is named by one place only ..
  pub at_one_place : Apart n at
  at_one_place i j k l e =
      ⊎_elim (λ b. absurd (omega (arith, further_on i j b l, ap (key spotAt) e)))
      (λ b. ⊎_elim sym (λ c. absurd (omega (arith, further_on j i c k, ap (key spotAt) e))) (eq-or-lt_of_le b))
      (less_or_not i j)

  -- .. and every number is.
  pub every_named : (p : ℕ) → p < n → Named n at p
  every_named = all_named n at a.below at_one_place

  -- As many lines stay as places that name one.
  pub as_many_stay : (gone : ℕ → Bool) → rank (λ i. gone (at i)) n ≡ rank gone n
  as_many_stay = as_many n at a.below at_one_place

  -- A number's place is how many numbers have a smaller key, so it does not depend on the order.
  pub place_of : (i : ℕ) → i < n → rank (λ p. leb (key spotAt (at i)) (key spotAt p)) n ≡ i
  place_of i l =
      sym (as_many_stay (λ p. leb (key spotAt (at i)) (key spotAt p)))
      ∙ rank_first (λ j. leb (key spotAt (at i)) (key spotAt (at j))) i n (omega arith)
      (λ j k. lt-leb (key spotAt (at i)) (key spotAt (at j)) (further_on j i k l))
      (λ j b k. le-leb (key spotAt (at i)) (key spotAt (at j))
      (⊎_elim (λ e. omega (arith, ap (λ (m : ℕ). key spotAt (at m)) e)) (λ c. omega (arith, further_on i j c k)) (eq-or-lt_of_le b)))

  pub agrees_same : {to : ℕ → ℕ} → ((i : ℕ) → i < n → at i ≡ to i) → Agrees spotAt n to
  agrees_same same = record {
    below = λ i l. omega (arith, same i l, a.below i l);
    rising = λ i l. omega (arith, ap (key spotAt) (same i (omega arith)), ap (key spotAt) (same (i + 1) l), a.rising i l);
  }

-- Two that agree are equal place by place.
pub only_one : {spotAt : ℕ → ℕ} {n : ℕ} {at to : ℕ → ℕ} → Agrees spotAt n at → Agrees spotAt n to → (i : ℕ) → i < n → at i ≡ to i
only_one {spotAt} {n} {at} {to} a b i l =
    let w = every_named b (at i) (a.below i l) in
    let here : w.place ≡ i
    = sym (place_of b w.place w.there) ∙ ap (λ (p : ℕ). rank (λ q. leb (key spotAt p) (key spotAt q)) n) w.names ∙ place_of a i l in
    sym (ap to (sym here) ∙ w.names)
