-- THEOREM: what one sender sends never changes what is answered to another, refusal 20 aside.
use Prim.Native.Nat.{ℕ}
use mathlib.Core.Path.{◌≡◌, refl, sym, ap, subst, ◌∙◌}
use mathlib.Core.Bool.{Bool, true, false, cond, not, ◌&&◌, true≢false}
use mathlib.Core.List.{List, [], ◌∷◌}
use borrow.Author.Tests.{eqb-true, eqb-false}
use lib.Dec.{eqb}
use Rattle.basics.specs.Lists.{any}
use Rattle.basics.proofs.Bools.{both, neither}
use Rattle.basics.proofs.Lists.{none_stays}
use Rattle.can_rules.specs.declared.Frame.{Frame}
use Rattle.can_rules.specs.Aliases.{Aliases, bad_aliases}
use Rattle.can_rules.specs.Joining.{Begun, bad_joining, by, sender_of, Outcome, join}
use Rattle.can_rules.specs.Runs.{Answer, answer_in, from, piece, piece_from, those, answers_to, crowded}
use Rattle.can_rules.proofs.Bounds.{Bounded, bounded}
use Rattle.can_rules.proofs.Changes.{no_piece_keeps, others_keep, next_bounded}
use Rattle.can_rules.proofs.Alone.{alone_for, join_alone}

-- ---- all frames, and those of one sender

-- Every frame, whoever sent it.
abbrev pub every : Frame → Bool
every f = true

-- Over any choice of a sender's frames that leaves out none that changes what it has begun.
module _ (l : Aliases) (good : bad_aliases l ≡ false) (n : ℕ) (mine : Frame → Bool)
    (owner : (f : Frame) → mine f ≡ true → sender_of l f ≡ n)
    (kept : (s : List Begun) (f : Frame) → mine f ≡ false → by n (join l s f).next ≡ by n s) where
  -- One of them, alone.
  mine_alone : (s : List Begun) (f : Frame) → Bounded s → mine f ≡ true → eqb (join l s f).refusal 20 ≡ false → join l (by n s) f ≡ alone_for n (join l s f)
  mine_alone s f b is calm =
      subst (λ (k : ℕ). join l (by k s) f ≡ alone_for k (join l s f)) (owner f is) (join_alone l s f good b (eqb-false (join l s f).refusal 20 calm))

  -- One frame more at the front.
  one_more : (s : List Begun) (f : Frame) (fs : List Frame) → Bounded s
      → (crowded (answers_to mine l (join l s f).next fs) ≡ false → answers_to mine l (join l s f).next fs ≡ answers_to every l (by n (join l s f).next) (those mine fs))
      → crowded (answers_to mine l s (f ∷ fs)) ≡ false → answers_to mine l s (f ∷ fs) ≡ answers_to every l (by n s) (those mine (f ∷ fs))
  one_more s f fs b later calm = go (mine f) refl calm
    where
      t : List Begun
      t = (join l s f).next

      go : (is : Bool) → mine f ≡ is → crowded (cond is (answer_in (join l s f) ∷ answers_to mine l t fs) (answers_to mine l t fs)) ≡ false
          → cond is (answer_in (join l s f) ∷ answers_to mine l t fs) (answers_to mine l t fs) ≡ answers_to every l (by n s) (cond (not is) (those mine fs) (f ∷ those mine fs))
      go true is calm =
          let k = neither (eqb (join l s f).refusal 20) (crowded (answers_to mine l t fs)) calm in
          ap (λ (xs : List Answer). answer_in (join l s f) ∷ xs) (later k.1)
          ∙ ap (λ (o : Outcome). answer_in o ∷ answers_to every l o.next (those mine fs)) (sym (mine_alone s f b is k.0))
      go false is calm = later calm ∙ ap (λ (x : List Begun). answers_to every l x (those mine fs)) (kept s f is)

  -- They are answered as if nothing else had come.
  pub as_alone : (s : List Begun) (fs : List Frame) → Bounded s → crowded (answers_to mine l s fs) ≡ false → answers_to mine l s fs ≡ answers_to every l (by n s) (those mine fs)
  as_alone s [] b calm = refl
  as_alone s (f ∷ fs) b calm = one_more s f fs b (as_alone (join l s f).next fs (next_bounded l s f b)) calm

-- Where all frames are mine, all are answered.
pub all_mine : (mine : Frame → Bool) (l : Aliases) (s : List Begun) (fs : List Frame) → any (λ f. not (mine f)) fs ≡ false
    → answers_to mine l s fs ≡ answers_to every l s fs
all_mine mine l s [] h = refl
all_mine mine l s (f ∷ fs) h = go (mine f) (neither (not (mine f)) (any (λ g. not (mine g)) fs) h) (all_mine mine l (join l s f).next fs)
  where
    go : (t : Bool) → (not t ≡ false) × (any (λ g. not (mine g)) fs ≡ false)
        → (any (λ g. not (mine g)) fs ≡ false → answers_to mine l (join l s f).next fs ≡ answers_to every l (join l s f).next fs)
        → cond t (answer_in (join l s f) ∷ answers_to mine l (join l s f).next fs) (answers_to mine l (join l s f).next fs)
        ≡ answer_in (join l s f) ∷ answers_to every l (join l s f).next fs
    go true h later = ap (λ (xs : List Answer). answer_in (join l s f) ∷ xs) (later h.1)
    go false h later = absurd (true≢false h.0)

-- ---- the two choices

pub from_owner : (l : Aliases) (n : ℕ) (f : Frame) → from l n f ≡ true → sender_of l f ≡ n
from_owner l n f e = eqb-true (sender_of l f) n e

pub from_kept : (l : Aliases) (n : ℕ) (s : List Begun) (f : Frame) → from l n f ≡ false → by n (join l s f).next ≡ by n s
from_kept l n s f e = others_keep l s f n e

pub piece_owner : (l : Aliases) (n : ℕ) (f : Frame) → piece_from l n f ≡ true → sender_of l f ≡ n
piece_owner l n f e = eqb-true (sender_of l f) n (both (from l n f) (piece f) e).0

pub piece_kept : (l : Aliases) (n : ℕ) (s : List Begun) (f : Frame) → piece_from l n f ≡ false → by n (join l s f).next ≡ by n s
piece_kept l n s f e = go (from l n f) refl e
  where
    go : (t : Bool) → from l n f ≡ t → (t && piece f) ≡ false → by n (join l s f).next ≡ by n s
    go true t e = ap (by n) (no_piece_keeps l s f e)
    go false t e = others_keep l s f n t

module _ (l : Aliases) (n : ℕ) (s : List Begun) (fs : List Frame) (good : bad_aliases l ≡ false) (ok : bad_joining s ≡ false) where
  -- SENDERS APART. A node's frames are answered as if nobody else had sent or begun anything, where none of them is refused with 20.
  pub senders_apart : crowded (answers_to (from l n) l s fs) ≡ false → answers_to (from l n) l s fs ≡ answers_to (from l n) l (by n s) (those (from l n) fs)
  senders_apart calm =
      as_alone l good n (from l n) (from_owner l n) (from_kept l n) s fs (bounded s ok) calm
      ∙ sym (all_mine (from l n) l (by n s) (those (from l n) fs) (none_stays (λ f. not (from l n f)) fs))

  -- The same of its starts, middles and lasts alone: its other frames may be left out too.
  pub pieces_apart : crowded (answers_to (piece_from l n) l s fs) ≡ false
      → answers_to (piece_from l n) l s fs ≡ answers_to (piece_from l n) l (by n s) (those (piece_from l n) fs)
  pieces_apart calm =
      as_alone l good n (piece_from l n) (piece_owner l n) (piece_kept l n) s fs (bounded s ok) calm
      ∙ sym (all_mine (piece_from l n) l (by n s) (those (piece_from l n) fs) (none_stays (λ f. not (piece_from l n f)) fs))
