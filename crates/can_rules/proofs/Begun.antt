-- What one sender has begun and what the others have: how dropping, adding and lengthening change it, and that the state stays in bounds.
use Prim.Native.Nat.{ℕ, ◌+◌}
use mathlib.Core.Path.{◌≡◌, refl, sym, ap, ◌∙◌}
use mathlib.Core.Bool.{Bool, true, false, cond, not, ◌&&◌, ◌||◌}
use mathlib.Core.List.{List, [], ◌∷◌, ◌++◌, map, append-nil}
use borrow.Author.Tests.{eqb-true, eqb-false, eq-eqb, ne_eqb, not-true}
use lib.Dec.{eqb, ltb}
use lib.ListN.{length}
use Rattle.basics.specs.Lists.{any}
use Rattle.basics.proofs.Bools.{neither}
use Rattle.basics.proofs.Lists.{none_stays, without_append}
use Rattle.can_rules.specs.Joining.{Begun, begun, most_payload, of_sender, has_begun, by, dropped, longer, overflows}
use Rattle.can_rules.proofs.Lists.{none_left, left_out_before, passing_stay, without_map}

-- ---- one sender's part

pub of_sender_lem : (n event : ℕ) (so_far : List ℕ) → of_sender n (begun n event so_far) ≡ true
of_sender_lem n event so_far = eq-eqb n n refl

-- What is said of a sender's unfinished message is said of its own part.
pub begun_alone : (n : ℕ) (s : List Begun) → has_begun n (by n s) ≡ has_begun n s
begun_alone n s = passing_stay (of_sender n) (λ b. not (of_sender n b)) (λ b e. not-true (of_sender n b) e) s

pub overflows_alone : (n : ℕ) (bytes : List ℕ) (s : List Begun) → any (overflows n bytes) (by n s) ≡ any (overflows n bytes) s
overflows_alone n bytes s =
    passing_stay (overflows n bytes) (λ b. not (of_sender n b))
    (λ b e. ap (λ (t : Bool). t && ltb most_payload (length b.so_far + length bytes)) (not-true (of_sender n b) e)) s

-- A sender that has begun nothing has no part, and a part of a part is it.
pub nothing_begun : (n : ℕ) (s : List Begun) → has_begun n s ≡ false → by n s ≡ []
nothing_begun n [] h = refl
nothing_begun n (b ∷ s) h = let k = neither (of_sender n b) (has_begun n s) h in rw k.0 (nothing_begun n s k.1)

either_way : (t : Bool) → (t || not t) ≡ true
either_way true = refl
either_way false = refl

pub dropped_alone : (n : ℕ) (s : List Begun) → dropped n (by n s) ≡ []
dropped_alone n s = none_left (of_sender n) (λ b. not (of_sender n b)) (λ b. either_way (of_sender n b)) s

pub by_dropped : (n : ℕ) (s : List Begun) → by n (dropped n s) ≡ []
by_dropped n s = nothing_begun n (dropped n s) (none_stays (of_sender n) s)

-- ---- another sender's part

of_another : (n m : ℕ) (b : Begun) → eqb m n ≡ false → of_sender m b ≡ true → of_sender n b ≡ false
of_another n m b apart e = ap (λ (k : ℕ). eqb k n) (eqb-true b.sender m e) ∙ apart

pub by_dropped_other : (n m : ℕ) (s : List Begun) → eqb m n ≡ false → by n (dropped m s) ≡ by n s
by_dropped_other n m s apart = left_out_before (λ b. not (of_sender n b)) (of_sender m) (λ b e. ap not (of_another n m b apart e)) s

pub by_added : (n : ℕ) (s : List Begun) (b : Begun) → of_sender n b ≡ true → by n (s ++ (b ∷ [])) ≡ by n s ++ (b ∷ [])
by_added n s b e = without_append (λ x. not (of_sender n x)) s (b ∷ []) ∙ rw e

pub by_added_other : (n : ℕ) (s : List Begun) (b : Begun) → of_sender n b ≡ false → by n (s ++ (b ∷ [])) ≡ by n s
by_added_other n s b e = without_append (λ x. not (of_sender n x)) s (b ∷ []) ∙ rw e (append-nil (by n s))

-- ---- more bytes

pub longer_sender : (m : ℕ) (bytes : List ℕ) (b : Begun) → (longer m bytes b).sender ≡ b.sender
longer_sender m bytes b = go (of_sender m b)
  where
    go : (t : Bool) → (cond t (begun b.sender b.event (b.so_far ++ bytes)) b).sender ≡ b.sender
    go true = refl
    go false = refl

pub by_longer : (n m : ℕ) (bytes : List ℕ) (s : List Begun) → by n (map (longer m bytes) s) ≡ map (longer m bytes) (by n s)
by_longer n m bytes s = without_map (λ b. not (of_sender n b)) (longer m bytes) (λ b. ap (λ (k : ℕ). not (eqb k n)) (longer_sender m bytes b)) s

-- Another sender's bytes change nothing.
pub by_longer_other : (n m : ℕ) (bytes : List ℕ) (s : List Begun) → eqb m n ≡ false → by n (map (longer m bytes) s) ≡ by n s
by_longer_other n m bytes s apart = by_longer n m bytes s ∙ kept s
  where
    kept : (s : List Begun) → map (longer m bytes) (by n s) ≡ by n s
    kept [] = refl
    kept (b ∷ s) = go (of_sender n b) refl (kept s)
      where
        go : (t : Bool) → of_sender n b ≡ t → map (longer m bytes) (by n s) ≡ by n s → map (longer m bytes) (cond (not t) (by n s) (b ∷ by n s)) ≡ cond (not t) (by n s) (b ∷ by n s)
        go true e rest =
            let mine : b.sender ≡ n = eqb-true b.sender n e in
            let other : of_sender m b ≡ false = ne_eqb b.sender m (λ z. eqb-false m n apart (sym z ∙ mine)) in
            rw other (ap (λ (l : List Begun). b ∷ l) rest)
        go false e rest = rest
