-- When lines go: the numbers of those that stay, in their order and lowered, agree with the table of the lines that stay.
use Prim.Native.Nat.{ℕ, ◌+◌, ◌-◌, ◌≤◌, ◌<◌}
use mathlib.Core.Path.{◌≡◌, sym, ap, ◌∙◌}
use mathlib.Core.Logic.{⊎_elim}
use mathlib.Core.Bool.{Bool, true, false, cond}
use mathlib.Core.List.{List}
use native.Mathlib.Omega.{arith}
use borrow.Author.Tests.{le-leb, lt-leb}
use lib.Dec.{leb}
use lib.ListN.{get_or}
use Rattle.index_rules.specs.Agreeing.{Agrees, rank, Falls, drops, Lowered}
use Rattle.index_rules.proofs.Comparing.{less_or_not}
use Rattle.index_rules.proofs.Ranks.{rank_same, rank_le, rank_rises, rank_below, kept}
use Rattle.index_rules.proofs.Order.{further_on, as_many_stay}

module _ (gone : ℕ → Bool) (n : ℕ) (small : n ≤ 256) (falls : List ℕ) (f : Falls gone n falls) where
  pub falls_gone : (p : ℕ) → p < n → leb 256 (get_or falls p 0) ≡ gone p
  falls_gone p l = ap (leb 256) (f.by p l) ∙ go (gone p)
    where
      go : (t : Bool) → leb 256 (cond t 256 (p - rank gone p)) ≡ t
      go true = le-leb 256 256 (omega arith)
      go false = lt-leb 256 (p - rank gone p) (omega arith)

  pub falls_to : (p : ℕ) → p < n → gone p ≡ false → p - get_or falls p 0 ≡ rank gone p
  falls_to p l e =
      let by : get_or falls p 0 ≡ p - rank gone p = f.by p l ∙ ap (λ (t : Bool). cond t 256 (p - rank gone p)) e in
      omega (arith, by, rank_le gone p)

  -- As many places stay as lines.
  pub places_stay : {spotAt at : ℕ → ℕ} → Agrees spotAt n at → rank (drops falls at) n ≡ rank gone n
  places_stay {at = at} a = rank_same (drops falls at) (λ i. gone (at i)) n (λ i k. falls_gone (at i) (a.below i k)) ∙ as_many_stay a gone

-- What a place of the new order comes from.
record From (gone : ℕ → Bool) (n : ℕ) (falls : List ℕ) (at to : ℕ → ℕ) (j : ℕ) : Type 0 where
  place : ℕ
  below : at place < n
  there : place < n
  is : rank (drops falls at) place ≡ j
  stays : gone (at place) ≡ false
  number : to j ≡ rank gone (at place)

module _ (gone : ℕ → Bool) (n : ℕ) (small : n ≤ 256) (falls : List ℕ) (f : Falls gone n falls)
    (spotAt spotTo : ℕ → ℕ) (at to : ℕ → ℕ) (a : Agrees spotAt n at) (l : Lowered falls at n to) where
  from : (j : ℕ) → j < rank gone n → From gone n falls at to j
  from j b =
      let k = kept (drops falls at) n j (omega (arith, places_stay gone n small falls f a)) in
      let low = a.below k.old k.there in
      let stays : gone (at k.old) ≡ false = sym (falls_gone gone n small falls f (at k.old) low) ∙ k.stays in
      record {
        place = k.old;
        below = low;
        there = k.there;
        is = k.is;
        stays = stays;
        number = ap to (sym k.is) ∙ l.entries k.old k.there k.stays ∙ falls_to gone n small falls f (at k.old) low stays;
      }

  pub lowered : ((p : ℕ) → p < n → gone p ≡ false → spotTo (rank gone p) ≡ spotAt p) → Agrees spotTo (rank gone n) to
  lowered moved = record {
    below = λ j b. let v = from j b in omega (arith, v.number, rank_below gone (at v.place) n v.stays v.below);
    rising = λ j b.
        let v = from j (omega arith) in
        let w = from (j + 1) b in
        let p = at v.place in
        let q = at w.place in
        let first : v.place < w.place
        = ⊎_elim (λ h. h) (λ h. absurd (omega (arith, rank_rises (drops falls at) w.place v.place h, v.is, w.is))) (less_or_not v.place w.place) in
        let old = further_on a v.place w.place first w.there in
        let here : spotTo (to j) ≡ spotAt p = ap spotTo v.number ∙ moved p v.below v.stays in
        let next : spotTo (to (j + 1)) ≡ spotAt q = ap spotTo w.number ∙ moved q w.below w.stays in
        ⊎_elim
        (λ h. omega (arith, rank_below gone p q v.stays h, here, next, old, v.number, w.number))
        (λ h. omega (arith, rank_le gone p, v.below, here, next, old, v.number, w.number))
        (less_or_not p q);
  }
