-- What one frame changes: nothing that is another sender's, nothing where it is no piece of a message, and nothing that puts the state out of bounds.
use Prim.Native.Nat.{ℕ, zero, suc, ◌≤◌}
use mathlib.Core.Path.{◌≡◌, refl, sym, ap, ◌∙◌}
use mathlib.Core.Bool.{Bool, true, false, cond, not, ◌&&◌, ◌||◌, true≢false}
use mathlib.Core.List.{List, [], ◌∷◌, ◌++◌}
use native.Mathlib.Omega.{arith}
use borrow.Author.Tests.{eq-eqb}
use lib.Dec.{eqb}
use lib.ListN.{length, length-map}
use Rattle.numbers.specs.Numbers.{number_in}
use Rattle.basics.specs.Lists.{any}
use Rattle.basics.specs.Refusals.{refuse, first_of, None}
use Rattle.basics.proofs.Bools.{neither}
use Rattle.basics.proofs.Firsts.{first_none, first_passed, rest_passed}
use Rattle.basics.proofs.Lists.{none_stays}
use Rattle.can_rules.specs.declared.Frame.{Frame}
use Rattle.can_rules.specs.declared.Part.{Part}
use Rattle.can_rules.specs.declared.Part.TheVariants.{Whole, Start, Middle, Last, OtherHeader}
use Rattle.can_rules.specs.Frames.{alias_in, part_in, part_of, bytes_in}
use Rattle.can_rules.specs.Aliases.{Aliases, bad_aliases, node_for}
use Rattle.can_rules.specs.Joining.{Begun, begun, bad_joining, of_sender, by, dropped, starts, continues, overflows, sender_of, sender_tests, join_tests, is_other, Handed, finished, Outcome, joined, settled, join}
use Rattle.can_rules.specs.Runs.{piece}
use Rattle.can_rules.proofs.Begun.{of_sender_lem, by_dropped, by_added, by_dropped_other, by_added_other, by_longer_other}
use Rattle.can_rules.proofs.Bounds.{Bounded, bounded, in_bounds, left_bounded, added_bounded, longer_bounded, by_one}
use Rattle.can_rules.proofs.Lists.{any_map}
use Rattle.can_rules.proofs.Exactly.{join_accepted, join_joined, join_applies, refused_silent, refusal_keeps}

-- What is true of the state after an accepted frame, after 18 and after every other refusal is true of the next state.
pub by_outcome : (l : Aliases) (s : List Begun) (f : Frame) (P : List Begun → Type 0)
    → (first_of (join_tests l s f) ≡ 0 → P (joined s (sender_of l f) (bytes_in f) (part_of f)).next) → P (dropped (sender_of l f) s) → P s → P (join l s f).next
unfolding join
by_outcome l s f P accepted eighteen kept = go (first_of (join_tests l s f)) refl
  where
    either : (t : Bool) → P (cond t (dropped (sender_of l f) s) s)
    either true = eighteen
    either false = kept

    go : (k : ℕ) → first_of (join_tests l s f) ≡ k → P (settled s (sender_of l f) (bytes_in f) k (part_of f)).next
    go zero e = accepted e
    go (suc k) e = either (eqb (suc k) 18)

-- ---- frames that are no piece of a message

joined_keeps : (s : List Begun) (n : ℕ) (bytes : List ℕ) (part : Part) → (starts part || continues part) ≡ false → (joined s n bytes part).next ≡ s
joined_keeps s n bytes Whole h = refl
joined_keeps s n bytes Start h = absurd (true≢false h)
joined_keeps s n bytes Middle h = absurd (true≢false h)
joined_keeps s n bytes Last h = absurd (true≢false h)
joined_keeps s n bytes OtherHeader h = refl

-- A frame that is no start, middle or last leaves the joining state as it is, refused or not.
pub no_piece_keeps : (l : Aliases) (s : List Begun) (f : Frame) → piece f ≡ false → (join l s f).next ≡ s
no_piece_keeps l s f h = go (join l s f).refusal refl
  where
    -- 18 is given to a continuation only.
    never : (join l s f).refusal ≡ 18 → ⊥
    never e =
        let over = any (overflows (sender_of l f) (bytes_in f)) s in
        let not-here = ap (λ (t : Bool). (t && over) || false) (neither (starts (part_of f)) (continues (part_of f)) h).1 in
        true≢false (sym (join_applies l s f 18 (λ z. omega arith) e) ∙ not-here)

    go : (k : ℕ) → (join l s f).refusal ≡ k → (join l s f).next ≡ s
    go zero e = ap (λ (o : Outcome). o.next) (join_joined l s f e) ∙ joined_keeps s (sender_of l f) (bytes_in f) (part_of f) h
    go (suc k) e = refusal_keeps l s f (λ z. omega arith) never

-- A 05B4 frame drops nothing.
pub whole_keeps : (l : Aliases) (s : List Begun) (f : Frame) → part_of f ≡ Whole → (join l s f).next ≡ s
whole_keeps l s f h = no_piece_keeps l s f (ap (λ (p : Part). starts p || continues p) h)

-- ---- a start

-- A new start drops what its sender had begun: afterwards the sender has begun this one and no other.
pub start_renews : (l : Aliases) (s : List Begun) (f : Frame) → (join l s f).refusal ≡ 0 → part_of f ≡ Start
    → by (sender_of l f) (join l s f).next ≡ begun (sender_of l f) (number_in (bytes_in f)) [] ∷ []
start_renews l s f e start =
    let n = sender_of l f in
    let bytes = bytes_in f in
    ap (λ (o : Outcome). by n o.next) (join_joined l s f e)
    ∙ ap (λ (p : Part). by n (joined s n bytes p).next) start
    ∙ by_added n (dropped n s) (begun n (number_in bytes) []) (of_sender_lem n (number_in bytes) [])
    ∙ ap (λ (t : List Begun). t ++ (begun n (number_in bytes) [] ∷ [])) (by_dropped n s)

-- ---- other senders

others_part : (n m : ℕ) → eqb m n ≡ false → (s : List Begun) (bytes : List ℕ) (part : Part) → by n (joined s m bytes part).next ≡ by n s
others_part n m another s bytes Whole = refl
others_part n m another s bytes Start = by_added_other n (dropped m s) (begun m (number_in bytes) []) another ∙ by_dropped_other n m s another
others_part n m another s bytes Middle = by_longer_other n m bytes s another
others_part n m another s bytes Last = by_dropped_other n m s another
others_part n m another s bytes OtherHeader = refl

-- What another sender has begun stays.
pub others_keep : (l : Aliases) (s : List Begun) (f : Frame) (n : ℕ) → eqb (sender_of l f) n ≡ false → by n (join l s f).next ≡ by n s
others_keep l s f n another =
    by_outcome l s f (λ t. by n t ≡ by n s) (λ _. others_part n (sender_of l f) another s (bytes_in f) (part_of f)) (by_dropped_other n (sender_of l f) s another) refl

-- ---- bounds

-- An accepted start has found room, and an accepted middle fits.
part_bounded : (s : List Begun) (n : ℕ) (part : Part) (size : ℕ) (bytes : List ℕ) → Bounded s → None (sender_tests s n part size bytes) → Bounded (joined s n bytes part).next
part_bounded s n Whole size bytes b p = b
part_bounded s n Start size bytes b p = added_bounded n (number_in bytes) s b (first_passed (rest_passed (rest_passed (rest_passed p))))
part_bounded s n Middle size bytes b p = longer_bounded n bytes s b (first_passed (rest_passed (rest_passed (rest_passed (rest_passed p)))))
part_bounded s n Last size bytes b p = left_bounded (of_sender n) s b
part_bounded s n OtherHeader size bytes b p = b

pub next_bounded : (l : Aliases) (s : List Begun) (f : Frame) → Bounded s → Bounded (join l s f).next
next_bounded l s f b =
    by_outcome l s f Bounded
    (λ e. part_bounded s (sender_of l f) (part_of f) f.length (bytes_in f) b (rest_passed (rest_passed ((first_none (join_tests l s f) refl).0 e))))
    (left_bounded (of_sender (sender_of l f)) s b) b

pub stays_in_bounds : (l : Aliases) (s : List Begun) (f : Frame) → bad_joining s ≡ false → bad_joining (join l s f).next ≡ false
stays_in_bounds l s f h = in_bounds (join l s f).next (next_bounded l s f (bounded s h))

-- ---- what is handed out

joined_one : (s : List Begun) (n : ℕ) (bytes : List ℕ) → Bounded s → (part : Part) → length (joined s n bytes part).handed ≤ 1
joined_one s n bytes b Whole = omega arith
joined_one s n bytes b Start = omega arith
joined_one s n bytes b Middle = omega arith
joined_one s n bytes b Last = omega (arith, length-map (by n s) (finished bytes), by_one n s b.each_once)
joined_one s n bytes b OtherHeader = omega arith

-- One message at most.
pub hands_one : (l : Aliases) (s : List Begun) (f : Frame) → length (join l s f).handed ≤ 1
hands_one l s f = go (join l s f).refusal refl
  where
    go : (k : ℕ) → (join l s f).refusal ≡ k → length (join l s f).handed ≤ 1
    go zero e =
        let ok = neither (bad_aliases l) (bad_joining s) (first_passed ((join_accepted l s f).0 e)) in
        let same = ap (λ (o : Outcome). length o.handed) (join_joined l s f e) in
        omega (arith, joined_one s (sender_of l f) (bytes_in f) (bounded s ok.1) (part_of f))
    go (suc k) e = omega (arith, ap length (refused_silent l s f (λ z. omega arith)))

-- What is handed out comes from the frame's sender.
abbrev pub not_from : ℕ → Handed → Bool
not_from n h = not (eqb h.message.source n)

joined_own : (s : List Begun) (n : ℕ) (bytes : List ℕ) (part : Part) → any (not_from n) (joined s n bytes part).handed ≡ false
joined_own s n bytes Whole = rw (eq-eqb n n refl)
joined_own s n bytes Start = refl
joined_own s n bytes Middle = refl
joined_own s n bytes Last = any_map (not_from n) (finished bytes) (by n s) ∙ none_stays (λ b. not (of_sender n b)) s
joined_own s n bytes OtherHeader = refl

pub handed_own : (l : Aliases) (s : List Begun) (f : Frame) → any (not_from (sender_of l f)) (join l s f).handed ≡ false
handed_own l s f = go (join l s f).refusal refl
  where
    none : List Handed → Bool
    none hs = any (not_from (sender_of l f)) hs

    go : (k : ℕ) → (join l s f).refusal ≡ k → any (not_from (sender_of l f)) (join l s f).handed ≡ false
    go zero e = ap (λ (o : Outcome). none o.handed) (join_joined l s f e) ∙ joined_own s (sender_of l f) (bytes_in f) (part_of f)
    go (suc k) e = ap none (refused_silent l s f (λ z. omega arith))

-- ---- unused bytes

-- All that joining reads of a frame: its sender, its part, its length and the bytes in use.
abbrev join_of : Aliases → List Begun → ℕ → Part → ℕ → List ℕ → Outcome
join_of l s n part size bytes =
    settled s n bytes (first_of (refuse 7 (bad_aliases l || bad_joining s) ∷ refuse 29 (is_other part) ∷ sender_tests s n part size bytes)) part

-- What stands in the unused bytes of a frame does not matter.
pub unused_any : (l : Aliases) (s : List Begun) (f g : Frame) → f.header ≡ g.header → f.length ≡ g.length → bytes_in f ≡ bytes_in g → join l s f ≡ join l s g
unfolding join sender_of
unused_any l s f g header size bytes =
    ap (λ (h : ℕ). join_of l s (node_for l (alias_in h)) (part_in h) f.length (bytes_in f)) header
    ∙ ap (λ (k : ℕ). join_of l s (sender_of l g) (part_of g) k (bytes_in f)) size
    ∙ ap (λ (bs : List ℕ). join_of l s (sender_of l g) (part_of g) g.length bs) bytes
