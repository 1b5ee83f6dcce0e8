-- One frame, and the same frame where nobody but its sender has begun anything.
use Prim.Native.Nat.{ℕ, zero, suc}
use mathlib.Core.Path.{◌≡◌, refl, sym, ap, ap₂, ◌∙◌}
use mathlib.Core.Bool.{Bool, true, false, cond, not, ◌&&◌, ◌||◌}
use mathlib.Core.List.{List, [], ◌∷◌, ◌++◌, map}
use lib.Dec.{eqb, leb}
use lib.ListN.{length}
use Rattle.numbers.specs.Numbers.{number_in}
use Rattle.basics.specs.Lists.{any}
use Rattle.basics.specs.Refusals.{refuse, first_of}
use Rattle.basics.proofs.Lists.{without_again}
use Rattle.can_rules.specs.declared.Frame.{Frame}
use Rattle.can_rules.specs.declared.Part.{Part}
use Rattle.can_rules.specs.declared.Part.TheVariants.{Whole, Start, Middle, Last, OtherHeader}
use Rattle.can_rules.specs.Frames.{part_of, bytes_in}
use Rattle.can_rules.specs.Aliases.{Aliases, bad_aliases, nobody}
use Rattle.can_rules.specs.Joining.{Begun, begun, most_senders, has_begun, of_sender, by, dropped, is_other, starts, continues, wrong_length, overflows, sender_of, join_tests, finished, Outcome, outcome, joined, settled, join}
use Rattle.can_rules.proofs.Begun.{of_sender_lem, begun_alone, overflows_alone, nothing_begun, dropped_alone, by_dropped, by_added, by_longer}
use Rattle.can_rules.proofs.Bounds.{Bounded, in_bounds, left_bounded}
use Rattle.can_rules.proofs.Exactly.{join_number}

-- ---- the number of a refusal

-- By what is known of a frame, of its sender and of the others: whether 7 applies, whether the sender has begun, whether two have, whether the payload passes 256.
abbrev pub number_for : Bool → Part → ℕ → ℕ → Bool → Bool → Bool → ℕ
number_for bad part n size held two over =
    first_of (
    refuse 7 bad
    ∷ refuse 29 (is_other part)
    ∷ refuse 16 (eqb n nobody)
    ∷ refuse 19 (wrong_length part size)
    ∷ refuse 17 (continues part && not held)
    ∷ refuse 20 (starts part && (not held && two))
    ∷ refuse 18 (continues part && over)
    ∷ []
    )

-- What is left of it for a start: 16, 19, 20.
abbrev start_number : Bool → Bool → Bool → ℕ
start_number unknown wrong third = cond unknown 16 (cond wrong 19 (cond third 20 0))

-- A start that is not refused with 20 is answered as where there is room.
start_alone : (a b held two alone : Bool) → (held ≡ false → alone ≡ false) → (start_number a b (not held && two) ≡ 20 → ⊥)
    → start_number a b (not held && two) ≡ start_number a b (not held && alone)
start_alone true b held two alone none calm = refl
start_alone false true held two alone none calm = refl
start_alone false false true two alone none calm = refl
start_alone false false false true alone none calm = absurd (calm refl)
start_alone false false false false alone none calm = rw (none refl)

number_alone : (part : Part) (n size : ℕ) (held two alone over : Bool) → (held ≡ false → alone ≡ false) → (number_for false part n size held two over ≡ 20 → ⊥)
    → number_for false part n size held two over ≡ number_for false part n size held alone over
number_alone Whole n size held two alone over none calm = refl
number_alone Start n size held two alone over none calm = start_alone (eqb n nobody) (wrong_length Start size) held two alone none calm
number_alone Middle n size held two alone over none calm = refl
number_alone Last n size held two alone over none calm = refl
number_alone OtherHeader n size held two alone over none calm = refl

module _ (l : Aliases) (s : List Begun) (f : Frame) (good : bad_aliases l ≡ false) (b : Bounded s) where
  -- The number, as it stands where the list and the state are good.
  pub good_number : first_of (join_tests l s f)
      ≡ number_for false (part_of f) (sender_of l f) f.length (has_begun (sender_of l f) s) (leb most_senders (length s)) (any (overflows (sender_of l f) (bytes_in f)) s)
  good_number =
      ap (λ (t : Bool). number_for t (part_of f) (sender_of l f) f.length (has_begun (sender_of l f) s) (leb most_senders (length s)) (any (overflows (sender_of l f) (bytes_in f)) s))
      (ap₂ (λ (x y : Bool). x || y) good (in_bounds s b))

-- ---- one frame, and the same frame where nobody else has begun anything

-- An outcome with what this one sender has begun, and nothing of the others.
abbrev pub alone_for : ℕ → Outcome → Outcome
alone_for n o = outcome o.refusal o.handed (by n o.next)

module _ (s : List Begun) (n : ℕ) (bytes : List ℕ) where
  -- Dropped before or after the others are left out, nothing of the sender's stays.
  dropped_own : dropped n (by n s) ≡ by n (dropped n s)
  dropped_own = dropped_alone n s ∙ sym (by_dropped n s)

  part_alone : (part : Part) → joined (by n s) n bytes part ≡ alone_for n (joined s n bytes part)
  part_alone Whole = refl
  part_alone Start =
      let new = begun n (number_in bytes) [] in
      ap (λ (t : List Begun). outcome 0 [] (t ++ (new ∷ []))) dropped_own ∙ ap (outcome 0 []) (sym (by_added n (dropped n s) new (of_sender_lem n (number_in bytes) [])))
  part_alone Middle = ap (outcome 0 []) (sym (by_longer n n bytes s))
  part_alone Last = ap₂ (λ (own t : List Begun). outcome 0 (map (finished bytes) own) t) (without_again (λ b. not (of_sender n b)) s) dropped_own
  part_alone OtherHeader = refl

  answer_alone : (k : ℕ) (part : Part) → settled (by n s) n bytes k part ≡ alone_for n (settled s n bytes k part)
  answer_alone zero part = part_alone part
  answer_alone (suc k) part = ap (outcome (suc k) []) (go (eqb (suc k) 18))
    where
      go : (t : Bool) → cond t (dropped n (by n s)) (by n s) ≡ by n (cond t (dropped n s) s)
      go true = dropped_own
      go false = refl

-- A sender that has begun nothing does not stand in its own way.
alone_room : (n : ℕ) (s : List Begun) → has_begun n s ≡ false → leb most_senders (length (by n s)) ≡ false
alone_room n s e = ap (λ (t : List Begun). leb most_senders (length t)) (nothing_begun n s e)

-- A frame that is not refused with 20 does alone what it does among others.
pub join_alone : (l : Aliases) (s : List Begun) (f : Frame) → bad_aliases l ≡ false → Bounded s → ((join l s f).refusal ≡ 20 → ⊥)
    → join l (by (sender_of l f) s) f ≡ alone_for (sender_of l f) (join l s f)
unfolding join
join_alone l s f good b calm =
    ap (λ (k : ℕ). settled (by n s) n (bytes_in f) k (part_of f)) (sym same) ∙ answer_alone s n (bytes_in f) (first_of (join_tests l s f)) (part_of f)
  where
    n : ℕ
    n = sender_of l f

    -- The number, with what is known of the sender and of the others left open.
    number_with : Bool → Bool → Bool → ℕ
    number_with held two over = number_for false (part_of f) n f.length held two over

    same : first_of (join_tests l s f) ≡ first_of (join_tests l (by n s) f)
    same =
        let among = good_number l s f good b in
        let held = has_begun n s in
        let over = any (overflows n (bytes_in f)) s in
        let room = leb most_senders (length (by n s)) in
        let own : number_with (has_begun n (by n s)) room (any (overflows n (bytes_in f)) (by n s)) ≡ number_with held room over
        = ap₂ (λ (x y : Bool). number_with x room y) (begun_alone n s) (overflows_alone n (bytes_in f) s) in
        among
        ∙ number_alone (part_of f) n f.length held (leb most_senders (length s)) room over (alone_room n s) (λ e. calm (join_number l s f ∙ among ∙ e))
        ∙ sym (good_number l (by n s) f good (left_bounded (λ c. not (of_sender n c)) s b) ∙ own)
