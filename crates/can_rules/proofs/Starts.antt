-- Refusal 20 is given to a start and to nothing else: so of a message only the first answer has to be asked about.
use Prim.Native.Nat.{ℕ, zero, suc, ◌-◌, ◌^◌, ◌≤◌}
use mathlib.Core.Path.{◌≡◌, refl, sym, ap, ap₂, ◌∙◌}
use mathlib.Core.Bool.{Bool, true, false, cond, not, ◌&&◌, ◌||◌, true≢false}
use mathlib.Core.List.{List, [], ◌∷◌}
use native.Mathlib.Omega.{arith}
use borrow.Author.Tests.{ne_eqb}
use lib.Dec.{eqb, leb}
use lib.ListN.{length, take, drop, take-append-drop}
use Rattle.basics.specs.Lists.{any}
use Rattle.basics.specs.Refusals.{first_of}
use Rattle.basics.proofs.Bools.{neither}
use Rattle.basics.proofs.Lists.{any_append}
use Rattle.message.specs.declared.Message.{Message}
use Rattle.message.specs.Messages.{Below}
use Rattle.can_rules.specs.declared.Frame.{Frame}
use Rattle.can_rules.specs.Frames.{part_of}
use Rattle.can_rules.specs.Aliases.{Aliases, highest_alias, alias_for}
use Rattle.can_rules.specs.Joining.{Begun, most_senders, bad_joining, has_begun, starts, sender_of, Handed, join}
use Rattle.can_rules.specs.Splitting.{middles, frames_of, split_of, report_tests}
use Rattle.can_rules.specs.Runs.{Answer, answer_in, from, those, answers_to, crowded, at_last}
use Rattle.can_rules.proofs.Exactly.{join_applies}
use Rattle.can_rules.proofs.Pieces.{pieces_start_nothing}
use Rattle.can_rules.proofs.Reports.{handing, Reporting, splittable}
use Rattle.can_rules.proofs.Reports.Reporting.{bare, laden}
use Rattle.can_rules.proofs.RoundTrip.{round_trip}

abbrev pub is_start : Frame → Bool
is_start f = starts (part_of f)

pub only_starts_crowd : (l : Aliases) (s : List Begun) (f : Frame) → is_start f ≡ false → eqb (join l s f).refusal 20 ≡ false
only_starts_crowd l s f h =
    let third = not (has_begun (sender_of l f) s) && leb most_senders (length s) in
    let none : ((is_start f && third) || false) ≡ false = ap (λ (t : Bool). (t && third) || false) h in
    ne_eqb (join l s f).refusal 20 (λ e. true≢false (sym (join_applies l s f 20 (λ z. omega arith) e) ∙ none))

-- From where on a sender sends no start, none of its frames is refused with 20.
pub calm_from : (mine : Frame → Bool) (l : Aliases) (k : ℕ) (s : List Begun) (fs : List Frame) → any is_start (drop k (those mine fs)) ≡ false
    → crowded (drop k (answers_to mine l s fs)) ≡ false
calm_from mine l zero s [] h = refl
calm_from mine l (suc k) s [] h = refl
calm_from mine l zero s (f ∷ fs) h = go (mine f) h (calm_from mine l zero (join l s f).next fs)
  where
    rest : List Answer
    rest = answers_to mine l (join l s f).next fs

    go : (is : Bool) → any is_start (cond (not is) (those mine fs) (f ∷ those mine fs)) ≡ false → (any is_start (those mine fs) ≡ false → crowded rest ≡ false)
        → crowded (cond is (answer_in (join l s f) ∷ rest) rest) ≡ false
    go true h later = let k = neither (is_start f) (any is_start (those mine fs)) h in ap₂ (λ (x y : Bool). x || y) (only_starts_crowd l s f k.0) (later k.1)
    go false h later = later h
calm_from mine l (suc k) s (f ∷ fs) h = go (mine f) h (calm_from mine l k (join l s f).next fs) (calm_from mine l (suc k) (join l s f).next fs)
  where
    rest : List Answer
    rest = answers_to mine l (join l s f).next fs

    go : (is : Bool) → any is_start (drop (suc k) (cond (not is) (those mine fs) (f ∷ those mine fs))) ≡ false
        → (any is_start (drop k (those mine fs)) ≡ false → crowded (drop k rest) ≡ false)
        → (any is_start (drop (suc k) (those mine fs)) ≡ false → crowded (drop (suc k) rest) ≡ false)
        → crowded (drop (suc k) (cond is (answer_in (join l s f) ∷ rest) rest)) ≡ false
    go true h one all = one h
    go false h one all = all h

-- Some answers, and those after them.
pub crowded_parts : (k : ℕ) (xs : List Answer) → crowded (take k xs) ≡ false → crowded (drop k xs) ≡ false → crowded xs ≡ false
crowded_parts k xs front later =
    ap crowded (sym (take-append-drop k xs)) ∙ any_append (λ a. eqb a.refusal 20) (take k xs) (drop k xs) ∙ ap₂ (λ (x y : Bool). x || y) front later

-- ---- the starts of a message

one_start : (a n : ℕ) → a ≤ highest_alias → {h : Handed} → Reporting n h → any is_start (drop 1 (frames_of a h.message h.payload)) ≡ false
unfolding frames_of
one_start a n fits (bare event) = refl
one_start a n fits (laden event payload some most) = pieces_start_nothing a fits (middles payload) payload

-- None but the first of a message's frames is a start.
pub only_first_starts : (l : Aliases) (m : Message) (payload : List ℕ) → first_of (report_tests l m payload) ≡ 0 → any is_start (drop 1 (split_of l m payload)) ≡ false
unfolding split_of
only_first_starts l m payload e = let h = splittable l m payload e in one_start (alias_for l m.source) m.source h.stands.fits h.one_of_two

-- ROUND TRIP, where the message's first frame is not refused with 20: nothing is asked of the others.
pub round_trip_if_started : (l : Aliases) (m : Message) (payload : List ℕ) → first_of (report_tests l m payload) ≡ 0 → Below (2 ^ 64) m.event
    → (s : List Begun) (fs : List Frame) → bad_joining s ≡ false → those (from l m.source) fs ≡ split_of l m payload
    → crowded (take 1 (answers_to (from l m.source) l s fs)) ≡ false
    → answers_to (from l m.source) l s fs ≡ at_last (length (split_of l m payload) - 1) (handing m payload)
round_trip_if_started l m payload e low s fs ok split calm =
    let mine = from l m.source in
    let later = calm_from mine l 1 s fs (ap (λ (x : List Frame). any is_start (drop 1 x)) split ∙ only_first_starts l m payload e) in
    round_trip l m payload e low s fs ok split (crowded_parts 1 (answers_to mine l s fs) calm later)
