-- A number put in at its place: the numbers that stand behind its line move up by one.
use Prim.Native.Nat.{ℕ, ◌+◌, ◌-◌, ◌<◌}
use mathlib.Core.Path.{◌≡◌, refl, sym, ap, ◌∙◌, subst}
use mathlib.Core.Logic.{⊎_elim}
use mathlib.Core.List.{List}
use native.Mathlib.Nat.{eq-or-lt_of_le}
use native.Mathlib.Omega.{arith}
use lib.ListN.{get_or}
use Rattle.index_rules.specs.Agreeing.{key, Agrees}
use Rattle.index_rules.proofs.Comparing.{less_or_not}
use Rattle.gateway.specs.Indexing.{entry_in, Split, PutIn}

module _ {spotAt : ℕ → ℕ} {n place : ℕ} {before after : List ℕ} (small : n < 256) (a : Agrees spotAt n (entry_in before)) (s : Split (λ i. key spotAt (entry_in before i)) n (key spotAt n) place) (p : PutIn n place before after) where
  here : (m : ℕ) → place ≡ m → get_or after m 0 ≡ n
  here m e = ap (entry_in after) (sym e) ∙ p.here

  old : (m next : ℕ) → m + 1 ≡ next → next < n → key spotAt (get_or before m 0) < key spotAt (get_or before next 0)
  old m next e l = subst (λ (x : ℕ). key spotAt (get_or before m 0) < key spotAt (get_or before x 0)) e (a.rising m (omega arith))

  rises : {x y u v : ℕ} → x ≡ u → y ≡ v → key spotAt u < key spotAt v → key spotAt x < key spotAt y
  rises e f b = omega (arith, ap spotAt e, ap spotAt f)

  -- No two lines have the same key, since their numbers differ.
  behind : place < n → key spotAt n < key spotAt (get_or before place 0)
  behind l = omega (arith, s.over place (omega arith) l, a.below place l)

  pub entered : Agrees spotAt (n + 1) (entry_in after)
  entered = record {
    below = λ m l.
        ⊎_elim (λ h. omega (arith, p.front m h, a.below m (omega (arith, s.within))))
        (λ h. ⊎_elim (λ e. omega (arith, here m e)) (λ k. omega (arith, p.back (m - 1) m (omega arith) (omega arith) (omega arith), a.below (m - 1) (omega arith))) (eq-or-lt_of_le h))
        (less_or_not m place);
    rising = λ m l.
        ⊎_elim
        (λ h.
        ⊎_elim
        (λ e. rises (p.front m h) (here (m + 1) (sym e)) (s.under m h))
        (λ k. rises (p.front m h) (p.front (m + 1) k) (a.rising m (omega (arith, s.within))))
        (eq-or-lt_of_le (omega arith)))
        (λ h. ⊎_elim
        (λ e. rises (here m e) (p.back m (m + 1) refl h (omega arith) ∙ ap (entry_in before) (sym e)) (behind (omega arith)))
        (λ k. rises (p.back (m - 1) m (omega arith) (omega arith) (omega arith)) (p.back m (m + 1) refl h (omega arith)) (old (m - 1) m (omega arith) (omega arith)))
        (eq-or-lt_of_le h))
        (less_or_not m place);
  }
