-- What the index is to follow when lines go, and when one is put behind the others.
use Prim.Native.Nat.{ℕ, ◌+◌, ◌-◌, ◌≤◌, ◌<◌}
use mathlib.Core.Path.{◌≡◌, sym, ap, ◌∙◌, subst}
use mathlib.Core.Bool.{Bool, true, false, cond, ◌&&◌}
use mathlib.Core.List.{List}
use native.Mathlib.Omega.{arith}
use lib.Dec.{eqb}
use lib.ListN.{get_or}
use Rattle.basics.specs.Lists.{without}
use Rattle.index_rules.proofs.Passing.{below_same}
use Rattle.gateway_rules.specs.declared.Line.{Line}
use Rattle.index_rules.specs.Index.{spot_of, size_sets}
use Rattle.index_rules.specs.Agreeing.{Agrees, rank, Falls}
use Rattle.index_rules.proofs.Ranks.{rank_same, rank_all, rank_le, all_stay, kept as kept_from}
use Rattle.index_rules.proofs.Lowering.{lowered}
use Rattle.gateway.specs.State.{Lists, IndexLists, line_at, lines_in}
use Rattle.gateway.specs.Indexing.{entry_in, occurs_in, Sized, IndexFits, Lowerable, Follows}
use Rattle.gateway.proofs.Carrying.{kept_count, carried}

-- Lists with the same first lines have the same index.
module _ (n : ℕ) (t u : Lists) (x : IndexLists) (same : (p : ℕ) → p < n → line_at u p ≡ line_at t p) where
  same_order : Agrees (λ p. spot_of (line_at t p)) n (entry_in x.order) → Agrees (λ p. spot_of (line_at u p)) n (entry_in x.order)
  same_order a = record {
    below = a.below;
    rising = λ i l. omega (arith, a.rising i l, ap spot_of (same (entry_in x.order i) (a.below i (omega (arith, l)))), ap spot_of (same (entry_in x.order (i + 1)) (a.below (i + 1) l)));
  }

  same_sizes : size_sets (occurs_in n t.ports t.sizes) ≡ size_sets (occurs_in n u.ports u.sizes)
  same_sizes = λ z. size_sets (λ p k. below_same n (λ i. eqb (line_at t i).port p && eqb (line_at t i).block.k k) (λ i. eqb (line_at u i).port p && eqb (line_at u i).block.k k) (λ i l. ap (λ (v : Line). eqb v.port p && eqb v.block.k k) (sym (same i l))) z)

  pub fits_same : IndexFits n t x → IndexFits n u x
  fits_same f = record { agrees = same_order f.agrees; occurring = f.occurring ∙ same_sizes }

-- Lines taken out by a test.
module _ (test : Line → Bool) (n kept : ℕ) (small : n ≤ 256) (t u : Lists) (e : lines_in kept u ≡ without test (lines_in n t)) where
  abbrev gone : ℕ → Bool
  gone p = test (line_at t p)

  count : kept ≡ rank gone n
  count = kept_count test (line_at t) n kept (line_at u) e

  pub fewer : kept ≤ n
  fewer = omega (arith, count, rank_le gone n)

  -- Each that stays was one of them.
  pub sized_kept : Sized n t.ports t.sizes → Sized kept u.ports u.sizes
  sized_kept s = record {
    port = λ j l. let v = kept_from gone n j (omega (arith, l, count)) in omega (arith, s.port v.old v.there, ap (λ (m : Line). m.port) (was j v.old v.there v.stays v.is));
    size = λ j l. let v = kept_from gone n j (omega (arith, l, count)) in omega (arith, s.size v.old v.there, ap (λ (m : Line). m.block.k) (was j v.old v.there v.stays v.is));
  }
    where
      was : (j old : ℕ) → old < n → gone old ≡ false → rank gone old ≡ j → line_at u j ≡ line_at t old
      was j old l g r = ap (line_at u) (sym r) ∙ carried test (line_at t) n kept (line_at u) e old l g

  module _ (x : IndexLists) (falls : List ℕ) (fits : IndexFits n t x) (f : Falls gone n falls) where
    lowerable : Lowerable n x.order falls
    lowerable = record { below = fits.agrees.below; falling = λ p l h. go p (gone p) (f.by p l) h }
      where
        go : (p : ℕ) (y : Bool) → get_or falls p 0 ≡ cond y 256 (p - rank gone p) → get_or falls p 0 < 256 → get_or falls p 0 ≤ p
        go p true r h = absurd (omega (arith, r, h))
        go p false r h = omega (arith, r)

    -- Where all stay, each stays where it stood.
    unmoved : kept ≡ n → (p : ℕ) → p < n → line_at u p ≡ line_at t p
    unmoved all p l =
        let none = all_stay gone n (omega (arith, all, count)) in
        let here : rank gone p ≡ p = rank_same gone (λ _. false) p (λ q k. none q (omega (arith, k, l))) ∙ rank_all p in
        ap (line_at u) (sym here) ∙ carried test (line_at t) n kept (line_at u) e p l (none p l)

    pub follows : Follows n kept u.starts u.ports u.sizes x.order x.sets falls
    follows = record {
      lowerable = lowerable;
      agreeing = λ to low. subst (λ (k : ℕ). Agrees (λ p. spot_of (line_at u p)) k to) (sym count)
          (lowered gone n small falls f (λ p. spot_of (line_at t p)) (λ p. spot_of (line_at u p)) (entry_in x.order) to fits.agrees low
          (λ p l g. ap spot_of (carried test (line_at t) n kept (line_at u) e p l g)));
      unmoved = λ all. fits_same n t u x (unmoved all) fits;
    }
