-- THEOREM: of a message that lost its start, or its last frame, nothing is handed out.
use Prim.Native.Nat.{ℕ, zero, suc, ◌-◌, ◌^◌}
use mathlib.Core.Path.{◌≡◌, refl, sym, ap, ap₂, ◌∙◌}
use mathlib.Core.Bool.{Bool, false}
use mathlib.Core.List.{List, [], ◌∷◌, ◌++◌}
use native.Mathlib.Omega.{arith}
use lib.Dec.{ltb}
use lib.ListN.{length, take, drop, replicate, length-append}
use Rattle.basics.specs.Lists.{any}
use Rattle.basics.specs.Refusals.{first_of}
use Rattle.message.specs.declared.Message.{Message}
use Rattle.message.specs.Messages.{Below}
use Rattle.can_rules.specs.declared.Frame.{Frame}
use Rattle.can_rules.specs.Aliases.{Aliases}
use Rattle.can_rules.specs.Joining.{Begun, bad_joining, by, has_begun, Handed, join}
use Rattle.can_rules.specs.Splitting.{pieces, middles, frames_of, split_of, report_tests}
use Rattle.can_rules.specs.Runs.{Answer, answer, answer_in, from, those, answers_to, crowded, at_last, Lost}
use Rattle.can_rules.specs.Runs.Lost.{first, last}
use Rattle.can_rules.proofs.Begun.{nothing_begun}
use Rattle.can_rules.proofs.Bounds.{bounded}
use Rattle.can_rules.proofs.Apart.{every, as_alone, from_owner, from_kept}
use Rattle.can_rules.proofs.Made.{Stands}
use Rattle.can_rules.proofs.Pieces.{pieces_count, pieces_refused}
use Rattle.can_rules.proofs.Reports.{handing, Reporting, splittable}
use Rattle.can_rules.proofs.Reports.Reporting.{bare, laden}
use Rattle.can_rules.proofs.RoundTrip.{alone_joined}
use Rattle.can_rules.proofs.Starts.{is_start, calm_from, only_first_starts}

-- ---- frames alone

-- Where the sender has begun nothing, the frames after a start are refused with 17.
rest_refused : {l : Aliases} {a n : ℕ} → Stands l a n → {h : Handed} → Reporting n h
    → answers_to every l [] (drop 1 (frames_of a h.message h.payload)) ≡ replicate (length (frames_of a h.message h.payload) - 1) (answer 17 [])
unfolding frames_of
rest_refused k (bare event) = refl
rest_refused {a = a} k (laden event payload some most) =
    let count : suc (length (pieces a (middles payload) payload)) - 1 ≡ suc (middles payload) = omega (arith, pieces_count a (middles payload) payload) in
    rw count (pieces_refused k (middles payload) payload (omega arith) (omega arith))

-- The first frames' answers do not depend on those that follow.
answers_before : (l : Aliases) (s : List Begun) (fs gs : List Frame) → take (length fs) (answers_to every l s (fs ++ gs)) ≡ answers_to every l s fs
answers_before l s [] gs = refl
answers_before l s (f ∷ fs) gs = ap (λ (r : List Answer). answer_in (join l s f) ∷ r) (answers_before l (join l s f).next fs gs)

-- All answers of a message but the last give nothing.
before_last : (k : ℕ) (h : Handed) → take k (at_last k h) ≡ replicate k (answer 0 [])
before_last zero h = refl
before_last (suc k) h = ap (λ (r : List Answer). answer 0 [] ∷ r) (before_last k h)

-- ---- among others

module _ (l : Aliases) (m : Message) (payload : List ℕ) (e : first_of (report_tests l m payload) ≡ 0) where
  -- LOST START. Where its sender had begun nothing, each frame of a message without its start is refused with 17, whatever others send in between.
  pub lost_start_silent : (s : List Begun) (fs : List Frame) → bad_joining s ≡ false → has_begun m.source s ≡ false
      → those (from l m.source) fs ≡ drop 1 (split_of l m payload) → answers_to (from l m.source) l s fs ≡ replicate (length (split_of l m payload) - 1) (answer 17 [])
  unfolding split_of
  lost_start_silent s fs ok none split =
      let n = m.source in
      let h = splittable l m payload e in
      let calm = calm_from (from l n) l 0 s fs (ap (any is_start) split ∙ only_first_starts l m payload e) in
      as_alone l h.stands.good_list_lem n (from l n) (from_owner l n) (from_kept l n) s fs (bounded s ok) calm
      ∙ ap₂ (λ (t : List Begun) (x : List Frame). answers_to every l t x) (nothing_begun n s none) split
      ∙ rest_refused h.stands h.one_of_two

  -- LOST LAST. The frames of a message without its last one are accepted and give nothing, from any joining state.
  pub lost_last_silent : Below (2 ^ 64) m.event → (s : List Begun) (fs front : List Frame) (f : Frame) → bad_joining s ≡ false → split_of l m payload ≡ front ++ (f ∷ [])
      → those (from l m.source) fs ≡ front → crowded (answers_to (from l m.source) l s fs) ≡ false
      → answers_to (from l m.source) l s fs ≡ replicate (length front) (answer 0 [])
  lost_last_silent low s fs front f ok whole split calm =
      let n = m.source in
      let many : length (split_of l m payload) - 1 ≡ length front = ap (λ (x : List Frame). length x - 1) whole ∙ omega (arith, length-append front (f ∷ [])) in
      as_alone l (splittable l m payload e).stands.good_list_lem n (from l n) (from_owner l n) (from_kept l n) s fs (bounded s ok) calm
      ∙ ap (answers_to every l (by n s)) split
      ∙ sym (answers_before l (by n s) front (f ∷ []))
      ∙ ap (λ (x : List Frame). take (length front) (answers_to every l (by n s) x)) (sym whole)
      ∙ ap (take (length front)) (alone_joined l m payload e low s (bounded s ok) ∙ ap (λ (k : ℕ). at_last k (handing m payload)) many)
      ∙ before_last (length front) (handing m payload)

-- ---- whichever was lost

abbrev pub hands : Answer → Bool
hands a = ltb 0 (length a.handed)

silent : (i k : ℕ) → any hands (replicate k (answer i [])) ≡ false
silent i zero = refl
silent i (suc k) = silent i k

-- Where its sender had begun nothing, a message that lost only its first or only its last frame hands out nothing.
pub lost_silent : (l : Aliases) (m : Message) (payload : List ℕ) → first_of (report_tests l m payload) ≡ 0 → Below (2 ^ 64) m.event → (s : List Begun) (fs damaged : List Frame)
    → bad_joining s ≡ false → has_begun m.source s ≡ false → Lost (split_of l m payload) damaged → those (from l m.source) fs ≡ damaged
    → crowded (answers_to (from l m.source) l s fs) ≡ false → any hands (answers_to (from l m.source) l s fs) ≡ false
lost_silent l m payload e low s fs damaged ok none lost split calm = go lost refl split
  where
    go : {whole rest : List Frame} → Lost whole rest → whole ≡ split_of l m payload → those (from l m.source) fs ≡ rest → any hands (answers_to (from l m.source) l s fs) ≡ false
    go (first f rest) same split =
        ap (any hands) (lost_start_silent l m payload e s fs ok none (split ∙ ap (drop 1) same)) ∙ silent 17 (length (split_of l m payload) - 1)
    go (last f rest) same split =
        ap (any hands) (lost_last_silent l m payload e low s fs rest f ok (sym same) split calm) ∙ silent 0 (length rest)
