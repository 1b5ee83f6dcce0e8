-- The size of a step, and what a good file has.
use Prim.Native.Nat.{ℕ, suc, ◌+◌, ◌-◌, ◌≤◌, ◌<◌}
use mathlib.Core.Path.{◌≡◌, refl, sym, ap, ◌∙◌}
use mathlib.Core.Bool.{Bool, true, false, ◌&&◌, ◌||◌, true≢false}
use mathlib.Core.List.{List}
use native.Mathlib.Omega.{arith}
use borrow.Author.Tests.{ne_eqb, eqb-true, eqb-false, leb-true, le-leb}
use lib.Dec.{eqb, leb}
use lib.ListN.{length, get_or}
use Rattle.std.specs.Prelude.{Option, Some, None, IsSome}
use Rattle.numbers.specs.Numbers.{Bytes, number_at}
use Rattle.numbers.proofs.Laws.{number_at_below}
use Rattle.basics.proofs.Bools.{both}
use Rattle.framing.specs.declared.files.Kind.{Kind}
use Rattle.framing.specs.Kinds.{IsKind}
use Rattle.framing.specs.Files.{joins, splits, content_length, room_at, size_at, good_split, good_step, good_steps, step_count, steps_at, most_steps, good_file}

-- A number of two bytes.
pub number_small : (s : List ℕ) (at : ℕ) → Bytes s → number_at s at 2 < 65536
number_small s at h = number_at_below s at 2 h

-- ---- the size of a step

module _ (s : List ℕ) (at : ℕ) where
  pub size_join : get_or s at 0 ≡ 1 → size_at s at ≡ 14
  unfolding size_at
  size_join e = rw e

  pub size_split : (get_or s at 0 ≡ 1 → ⊥) → size_at s at ≡ 33 + content_length s at
  unfolding size_at
  size_split e = rw (ne_eqb (get_or s at 0) 1 e)

-- ---- a good step

module _ (s : List ℕ) (at : ℕ) (least : at + 14 ≤ length s) where
  pub good_join : get_or s at 0 ≡ 1 → good_step s at ≡ true
  unfolding good_step
  good_join e = rw (le-leb (at + 14) (length s) least, e)

  pub good_when_split : get_or s at 0 ≡ 2 → good_step s at ≡ good_split s at
  unfolding good_step
  good_when_split e = rw (le-leb (at + 14) (length s) least, e)

  pub good_other : (get_or s at 0 ≡ 1 → ⊥) → (get_or s at 0 ≡ 2 → ⊥) → good_step s at ≡ false
  unfolding good_step
  good_other e f = rw (le-leb (at + 14) (length s) least, ne_eqb (get_or s at 0) 1 e, ne_eqb (get_or s at 0) 2 f)

pub record Whole (s : List ℕ) (at : ℕ) : Type 0 where
  pub head : at + 33 ≤ length s
  pub whole : at + 33 + content_length s at ≤ length s
  pub room : room_at s at ≤ 512

pub good_whole : (s : List ℕ) (at : ℕ) → good_split s at ≡ true → Whole s at
unfolding good_split
good_whole s at e =
    let (head, e₁) = both (leb (at + 33) (length s)) _ e in
    let (_, e₂) = both (leb (get_or s (at + 11) 0) 1) _ e₁ in
    let (_, e₃) = both (leb (get_or s (at + 20) 0) 1) _ e₂ in
    let (_, e₄) = both (leb (content_length s at) 300) _ e₃ in
    let (whole, room) = both (leb (at + 33 + content_length s at) (length s)) _ e₄ in
    record {
      head = leb-true (at + 33) (length s) head;
      whole = leb-true (at + 33 + content_length s at) (length s) whole;
      room = leb-true (room_at s at) 512 room;
    }

module _ (s : List ℕ) (at : ℕ) (good : good_step s at ≡ true) where
  parts : (at + 14 ≤ length s) × ((joins s at || (splits s at && good_split s at)) ≡ true)
  unfolding good_step
  parts = let (least, rest) = both (leb (at + 14) (length s)) _ good in (leb-true (at + 14) (length s) least, rest)

  pub step_least : at + 14 ≤ length s
  step_least = parts.0

  pub step_known : (kind : Option Kind) → IsKind kind (get_or s at 0) → IsSome kind
  step_known None other = absurd (true≢false (sym good ∙ good_other s at step_least other.0 other.1))
  step_known (Some kind) is = refl

  pub other_split : (get_or s at 0 ≡ 1 → ⊥) → good_split s at ≡ true
  other_split other = (both (splits s at) (good_split s at) (rw (ne_eqb (get_or s at 0) 1 other) at parts.1)).1

  pub step_whole : (14 ≤ size_at s at) × (at + size_at s at ≤ length s)
  step_whole = go (joins s at) refl
    where
      go : (t : Bool) → joins s at ≡ t → (14 ≤ size_at s at) × (at + size_at s at ≤ length s)
      go true e = let size = size_join s at (eqb-true (get_or s at 0) 1 e) in omega (arith, size, parts.0)
      go false e =
          let other = eqb-false (get_or s at 0) 1 e in
          let size = size_split s at other in
          omega (arith, size, (good_whole s at (other_split other)).whole)

-- ---- good steps to the end

pub steps_none : (s : List ℕ) (at : ℕ) → good_steps 0 s at ≡ eqb at (length s)
unfolding good_steps
steps_none s at = refl

module _ (s : List ℕ) (at : ℕ) where
  steps_more : (n : ℕ) → good_steps (suc n) s at ≡ (good_step s at && good_steps n s (at + size_at s at))
  unfolding good_steps
  steps_more n = refl

  -- Where some are still to do, the first decides, or those after it.
  pub steps_turn : (n : ℕ) → 0 < n → {t : Bool} → good_step s at ≡ t → good_steps n s at ≡ (t && good_steps (n - 1) s (at + size_at s at))
  steps_turn n h e =
      let one : n ≡ suc (n - 1) = omega arith in
      ap (λ (k : ℕ). good_steps k s at) one ∙ steps_more (n - 1) ∙ ap (λ (t : Bool). t && good_steps (n - 1) s (at + size_at s at)) e

  -- The first of good steps is one, and so are those after it.
  pub steps_good : (n : ℕ) → good_steps (suc n) s at ≡ true → (good_step s at ≡ true) × (good_steps n s (at + size_at s at) ≡ true)
  steps_good n e = both (good_step s at) (good_steps n s (at + size_at s at)) (sym (steps_more n) ∙ e)

-- ---- a good file

pub record Good (s : List ℕ) : Type 0 where
  pub size : length s ≤ 65536
  pub some : 1 ≤ length s
  pub head : steps_at s ≤ length s
  pub count : step_count s ≤ most_steps
  pub steps : good_steps (step_count s) s (steps_at s) ≡ true

pub good_file_lem : (s : List ℕ) → good_file s ≡ true → Good s
unfolding good_file
good_file_lem s e =
    let (size, e₁) = both (leb (length s) 65536) _ e in
    let (some, e₂) = both (leb 1 (length s)) _ e₁ in
    let (head, e₃) = both (leb (steps_at s) (length s)) _ e₂ in
    let (count, steps) = both (leb (step_count s) most_steps) _ e₃ in
    record {
      size = leb-true (length s) 65536 size;
      some = leb-true 1 (length s) some;
      head = leb-true (steps_at s) (length s) head;
      count = leb-true (step_count s) most_steps count;
      steps = steps;
    }
