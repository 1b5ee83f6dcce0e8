-- THEOREM: two senders never crowd one another. So what is split is joined again with a second sender's frames in between, with nothing asked of refusal 20.
use Prim.Native.Nat.{ℕ, ◌-◌, ◌^◌, ◌≤◌}
use mathlib.Core.Path.{◌≡◌, refl, sym, ap, ap₂, ◌∙◌}
use mathlib.Core.Bool.{Bool, true, false, cond, not, ◌&&◌, ◌||◌, or-false, or_comm}
use mathlib.Core.List.{List, [], ◌∷◌, map}
use native.Mathlib.Omega.{arith}
use borrow.Author.Tests.{eqb-true, ne_eqb, leb-true, not-true, not-false}
use lib.Dec.{eqb, leb}
use lib.ListN.{length}
use Rattle.numbers.specs.Numbers.{number_in}
use Rattle.basics.specs.Lists.{any}
use Rattle.basics.specs.Refusals.{first_of}
use Rattle.basics.proofs.Bools.{both, neither}
use Rattle.basics.proofs.Lists.{any_append, without_none}
use Rattle.message.specs.declared.Message.{Message}
use Rattle.message.specs.Messages.{Below}
use Rattle.can_rules.specs.declared.Frame.{Frame}
use Rattle.can_rules.specs.declared.Part.{Part}
use Rattle.can_rules.specs.declared.Part.TheVariants.{Whole, Start, Middle, Last, OtherHeader}
use Rattle.can_rules.specs.Frames.{part_of, bytes_in}
use Rattle.can_rules.specs.Aliases.{Aliases, repeats}
use Rattle.can_rules.specs.Joining.{Begun, begun, most_senders, bad_joining, of_sender, has_begun, dropped, longer, starts, sender_of, joined, join}
use Rattle.can_rules.specs.Splitting.{split_of, report_tests}
use Rattle.can_rules.specs.Runs.{answer_in, from, those, answers_to, crowded, at_last}
use Rattle.can_rules.proofs.Lists.{all_stay}
use Rattle.can_rules.proofs.Begun.{longer_sender}
use Rattle.can_rules.proofs.Bounds.{Bounded, bounded, by_one}
use Rattle.can_rules.proofs.Exactly.{join_applies}
use Rattle.can_rules.proofs.Changes.{by_outcome, next_bounded}
use Rattle.can_rules.proofs.Starts.{is_start}
use Rattle.can_rules.proofs.Reports.{handing}
use Rattle.can_rules.proofs.RoundTrip.{round_trip}

-- Where 20 is given, the frame is a start, its sender has begun nothing, and two have.
pub record Third (s : List Begun) (n : ℕ) (part : Part) : Type 0 where
  pub starting : starts part ≡ true
  pub new : has_begun n s ≡ false
  pub two : most_senders ≤ length s

pub twenty_third : (l : Aliases) (s : List Begun) (f : Frame) → (join l s f).refusal ≡ 20 → Third s (sender_of l f) (part_of f)
twenty_third l s f e =
    let n = sender_of l f in
    let third = not (has_begun n s) && leb most_senders (length s) in
    let here : (starts (part_of f) && third) ≡ true = sym (or-false (starts (part_of f) && third)) ∙ join_applies l s f 20 (λ z. omega arith) e in
    let a = both (starts (part_of f)) third here in
    let b = both (not (has_begun n s)) (leb most_senders (length s)) a.1 in
    record { starting = a.0; new = not-true (has_begun n s) b.0; two = leb-true most_senders (length s) b.1 }

-- ---- a state in which only two senders stand

-- What neither of two senders has begun, and a start that neither of them sent.
abbrev pub strange : ℕ → ℕ → Begun → Bool
strange n m b = not (of_sender n b || of_sender m b)

abbrev pub strange_start : Aliases → ℕ → ℕ → Frame → Bool
strange_start l n m f = is_start f && not (from l n f || from l m f)

-- Where one of the two has begun nothing, all is the other's, and that is one message at most.
others_one : (n m : ℕ) (s : List Begun) → repeats (map (λ b. b.sender) s) ≡ false → any (strange n m) s ≡ false → has_begun n s ≡ false → length s ≤ 1
others_one n m s once two none = omega (arith, ap length (all_stay (λ b. not (of_sender m b)) s (rest s two none)), by_one m s once)
  where
    rest : (s : List Begun) → any (strange n m) s ≡ false → has_begun n s ≡ false → any (λ b. not (of_sender m b)) s ≡ false
    rest [] two none = refl
    rest (b ∷ s) two none =
        let a = neither (strange n m b) (any (strange n m) s) two in
        let c = neither (of_sender n b) (has_begun n s) none in
        let mine : of_sender m b ≡ true = ap (λ (t : Bool). t || of_sender m b) (sym c.0) ∙ not-false (of_sender n b || of_sender m b) a.0 in
        rw mine (rest s a.1 c.1)

turned : (n m : ℕ) (s : List Begun) → any (strange n m) s ≡ any (strange m n) s
turned n m [] = refl
turned n m (b ∷ s) = ap₂ (λ (x y : Bool). not x || y) (or_comm (of_sender n b) (of_sender m b)) (turned n m s)

-- Each of the two finds room.
room_for_two : (n m k : ℕ) (s : List Begun) → Bounded s → any (strange n m) s ≡ false → (eqb k n || eqb k m) ≡ true → has_begun k s ≡ false → length s ≤ 1
room_for_two n m k s b two is none = go (eqb k n) refl is
  where
    go : (t : Bool) → eqb k n ≡ t → (t || eqb k m) ≡ true → length s ≤ 1
    go true e is = others_one n m s b.each_once two (ap (λ (x : ℕ). has_begun x s) (sym (eqb-true k n e)) ∙ none)
    go false e is = others_one m n s b.each_once (sym (turned n m s) ∙ two) (ap (λ (x : ℕ). has_begun x s) (sym (eqb-true k m is)) ∙ none)

-- ---- one frame later

module _ (n m k : ℕ) (s : List Begun) (two : any (strange n m) s ≡ false) where
  longer_two : (bytes : List ℕ) (t : List Begun) → any (strange n m) (map (longer k bytes) t) ≡ any (strange n m) t
  longer_two bytes [] = refl
  longer_two bytes (b ∷ t) = ap₂ (λ (x : ℕ) (y : Bool). not (eqb x n || eqb x m) || y) (longer_sender k bytes b) (longer_two bytes t)

  joined_two : (bytes : List ℕ) (part : Part) → (starts part ≡ true → (eqb k n || eqb k m) ≡ true) → any (strange n m) (joined s k bytes part).next ≡ false
  joined_two bytes Whole is = two
  joined_two bytes Start is =
      any_append (strange n m) (dropped k s) (begun k (number_in bytes) [] ∷ []) ∙ rw (without_none (strange n m) (of_sender k) s two, is refl)
  joined_two bytes Middle is = longer_two bytes s ∙ two
  joined_two bytes Last is = without_none (strange n m) (of_sender k) s two
  joined_two bytes OtherHeader is = two

-- A start that is not strange is one of the two senders'.
start_of_two : (l : Aliases) (n m : ℕ) (f : Frame) → strange_start l n m f ≡ false → is_start f ≡ true → (from l n f || from l m f) ≡ true
start_of_two l n m f h start = not-false (from l n f || from l m f) (ap (λ (t : Bool). t && not (from l n f || from l m f)) (sym start) ∙ h)

next_two : (l : Aliases) (n m : ℕ) (s : List Begun) (f : Frame) → any (strange n m) s ≡ false → strange_start l n m f ≡ false → any (strange n m) (join l s f).next ≡ false
next_two l n m s f two h =
    by_outcome l s f (λ t. any (strange n m) t ≡ false) (λ _. joined_two n m (sender_of l f) s two (bytes_in f) (part_of f) (start_of_two l n m f h))
    (without_none (strange n m) (of_sender (sender_of l f)) s two) two

-- Two senders never crowd one another: where only they have begun, and only they start, none is refused with 20.
pub two_never_crowd : (mine : Frame → Bool) (l : Aliases) (n m : ℕ) (s : List Begun) → Bounded s → any (strange n m) s ≡ false
    → (fs : List Frame) → any (strange_start l n m) fs ≡ false → crowded (answers_to mine l s fs) ≡ false
two_never_crowd mine l n m s b two [] h = refl
two_never_crowd mine l n m s b two (f ∷ fs) h =
    let k = neither (strange_start l n m f) (any (strange_start l n m) fs) h in
    go (mine f) k.0 (two_never_crowd mine l n m (join l s f).next (next_bounded l s f b) (next_two l n m s f two k.0) fs k.1)
  where
    calm : strange_start l n m f ≡ false → (join l s f).refusal ≡ 20 → ⊥
    calm h e =
        let third = twenty_third l s f e in
        let room = room_for_two n m (sender_of l f) s b two (start_of_two l n m f h third.starting) third.new in
        omega (arith, third.two)

    go : (t : Bool) → strange_start l n m f ≡ false → crowded (answers_to mine l (join l s f).next fs) ≡ false
        → crowded (cond t (answer_in (join l s f) ∷ answers_to mine l (join l s f).next fs) (answers_to mine l (join l s f).next fs)) ≡ false
    go true h rest = rw (ne_eqb (join l s f).refusal 20 (calm h)) rest
    go false h rest = rest

-- ROUND TRIP with a second sender: its frames may come between in any way, and nothing is asked of refusal 20.
pub round_trip_two : (l : Aliases) (m : Message) (payload : List ℕ) → first_of (report_tests l m payload) ≡ 0 → Below (2 ^ 64) m.event
    → (other : ℕ) (s : List Begun) (fs : List Frame) → bad_joining s ≡ false → any (strange m.source other) s ≡ false → any (strange_start l m.source other) fs ≡ false
    → those (from l m.source) fs ≡ split_of l m payload
    → answers_to (from l m.source) l s fs ≡ at_last (length (split_of l m payload) - 1) (handing m payload)
round_trip_two l m payload e low other s fs ok two starts split =
    round_trip l m payload e low s fs ok split (two_never_crowd (from l m.source) l m.source other s (bounded s ok) two fs starts)
