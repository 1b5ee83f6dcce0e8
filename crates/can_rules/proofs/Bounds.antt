-- A joining state in bounds: what is left out of it, added to it or made longer in it leaves it so, and each sender stands in it once.
use Prim.Native.Nat.{ℕ, ◌+◌, ◌≤◌, ◌<◌, zero-le}
use mathlib.Core.Path.{◌≡◌, refl, sym, ap, ap₂, ◌∙◌}
use mathlib.Core.Bool.{Bool, true, false, cond, not, ◌&&◌, ◌||◌}
use mathlib.Core.List.{List, [], ◌∷◌, ◌++◌, map, map-append}
use native.Mathlib.Nat.{le_trans}
use native.Mathlib.Omega.{arith}
use borrow.Author.Tests.{leb-false, ltb-false, le-ltb, eqb-true}
use lib.Dec.{eqb, leb, ltb}
use lib.ListN.{length, length-append, length-map}
use Rattle.basics.specs.Lists.{any, without}
use Rattle.basics.proofs.Bools.{neither}
use Rattle.basics.proofs.Lists.{any_append, length_without, without_none, none_stays}
use Rattle.can_rules.specs.Aliases.{repeats}
use Rattle.can_rules.specs.Joining.{Begun, begun, most_senders, most_payload, too_long, bad_joining, of_sender, has_begun, by, dropped, longer, overflows}
use Rattle.can_rules.proofs.Lists.{shorter, any_map, repeats_end}
use Rattle.can_rules.proofs.Begun.{longer_sender, nothing_begun}

-- The senders of a joining state.
abbrev pub senders : List Begun → List ℕ
senders s = map (λ b. b.sender) s

pub record Bounded (s : List Begun) : Type 0 where
  pub at_most_two : length s ≤ most_senders
  pub all_short : any too_long s ≡ false
  pub each_once : repeats (senders s) ≡ false

pub bounded : (s : List Begun) → bad_joining s ≡ false → Bounded s
unfolding bad_joining
bounded s h =
    let a = neither (ltb most_senders (length s)) _ h in
    let b = neither (any too_long s) (repeats (senders s)) a.1 in
    record { at_most_two = ltb-false most_senders (length s) a.0; all_short = b.0; each_once = b.1 }

pub in_bounds : (s : List Begun) → Bounded s → bad_joining s ≡ false
unfolding bad_joining
in_bounds s b = rw (le-ltb most_senders (length s) b.at_most_two, b.all_short, b.each_once)

-- ---- some left out

once_left : (out : Begun → Bool) (s : List Begun) → repeats (senders s) ≡ false → repeats (senders (without out s)) ≡ false
once_left out [] h = refl
once_left out (b ∷ s) h = go (out b) (neither (any (λ x. eqb x b.sender) (senders s)) (repeats (senders s)) h) (once_left out s)
  where
    go : (t : Bool) → (any (λ x. eqb x b.sender) (senders s) ≡ false) × (repeats (senders s) ≡ false)
        → (repeats (senders s) ≡ false → repeats (senders (without out s)) ≡ false) → repeats (senders (cond t (without out s) (b ∷ without out s))) ≡ false
    go true h later = later h.1
    go false h later =
        let none : any (λ x. eqb x b.sender) (senders (without out s)) ≡ false
        = any_map (λ x. eqb x b.sender) (λ c. c.sender) (without out s)
        ∙ without_none (λ c. eqb c.sender b.sender) out s (sym (any_map (λ x. eqb x b.sender) (λ c. c.sender) s) ∙ h.0) in
        rw none (later h.1)

pub left_bounded : (out : Begun → Bool) (s : List Begun) → Bounded s → Bounded (without out s)
left_bounded out s b = record {
  at_most_two = le_trans (length_without out s) b.at_most_two;
  all_short = without_none too_long out s b.all_short;
  each_once = once_left out s b.each_once;
}

-- ---- a start

-- The test that refusal 20 makes leaves room for one more, once the sender's own is dropped.
pub room_for_one : (n : ℕ) (s : List Begun) → length s ≤ most_senders → (not (has_begun n s) && leb most_senders (length s)) ≡ false → length (dropped n s) < most_senders
room_for_one n s few h = go (has_begun n s) refl h
  where
    go : (t : Bool) → has_begun n s ≡ t → (not t && leb most_senders (length s)) ≡ false → length (dropped n s) < most_senders
    go true e h = let less = shorter (of_sender n) s e in omega arith
    go false e h = let less = length_without (of_sender n) s in let room = leb-false most_senders (length s) h in omega arith

pub added_bounded : (n event : ℕ) (s : List Begun) → Bounded s → (not (has_begun n s) && leb most_senders (length s)) ≡ false
    → Bounded (dropped n s ++ (begun n event [] ∷ []))
added_bounded n event s b room =
    let left = left_bounded (of_sender n) s b in
    let new : any (λ x. eqb x n) (senders (dropped n s)) ≡ false = any_map (λ x. eqb x n) (λ c. c.sender) (dropped n s) ∙ none_stays (of_sender n) s in
    record {
      at_most_two = let less = room_for_one n s b.at_most_two room in omega (arith, length-append (dropped n s) (begun n event [] ∷ []));
      all_short = any_append too_long (dropped n s) (begun n event [] ∷ []) ∙ rw left.all_short;
      each_once = ap repeats (map-append (λ b. b.sender) (dropped n s) (begun n event [] ∷ [])) ∙ repeats_end (senders (dropped n s)) n left.each_once new;
    }

-- ---- more bytes

same_senders : (n : ℕ) (bytes : List ℕ) (s : List Begun) → senders (map (longer n bytes) s) ≡ senders s
same_senders n bytes [] = refl
same_senders n bytes (b ∷ s) = ap₂ (λ (x : ℕ) (xs : List ℕ). x ∷ xs) (longer_sender n bytes b) (same_senders n bytes s)

still_short : (n : ℕ) (bytes : List ℕ) (s : List Begun) → any too_long s ≡ false → any (overflows n bytes) s ≡ false → any too_long (map (longer n bytes) s) ≡ false
still_short n bytes [] h fits = refl
still_short n bytes (b ∷ s) h fits =
    let k = neither (too_long b) (any too_long s) h in
    let f = neither (overflows n bytes b) (any (overflows n bytes) s) fits in
    ap₂ (λ (x y : Bool). x || y) (go (of_sender n b) k.0 f.0) (still_short n bytes s k.1 f.1)
  where
    go : (t : Bool) → too_long b ≡ false → (t && ltb most_payload (length b.so_far + length bytes)) ≡ false
        → too_long (cond t (begun b.sender b.event (b.so_far ++ bytes)) b) ≡ false
    go true h fits = ap (ltb most_payload) (length-append b.so_far bytes) ∙ fits
    go false h fits = h

pub longer_bounded : (n : ℕ) (bytes : List ℕ) (s : List Begun) → Bounded s → any (overflows n bytes) s ≡ false → Bounded (map (longer n bytes) s)
longer_bounded n bytes s b fits = record {
  at_most_two = omega (arith, length-map s (longer n bytes), b.at_most_two);
  all_short = still_short n bytes s b.all_short fits;
  each_once = ap repeats (same_senders n bytes s) ∙ b.each_once;
}

-- ---- each sender once

pub by_one : (n : ℕ) (s : List Begun) → repeats (senders s) ≡ false → length (by n s) ≤ 1
by_one n [] h = zero-le
by_one n (b ∷ s) h = go (of_sender n b) refl (neither (any (λ x. eqb x b.sender) (senders s)) (repeats (senders s)) h) (by_one n s)
  where
    go : (t : Bool) → of_sender n b ≡ t → (any (λ x. eqb x b.sender) (senders s) ≡ false) × (repeats (senders s) ≡ false)
        → (repeats (senders s) ≡ false → length (by n s) ≤ 1) → length (cond (not t) (by n s) (b ∷ by n s)) ≤ 1
    go true e h later =
        let rest : has_begun n s ≡ false
        = ap (λ (m : ℕ). any (λ c. eqb c.sender m) s) (sym (eqb-true b.sender n e)) ∙ sym (any_map (λ x. eqb x b.sender) (λ c. c.sender) s) ∙ h.0 in
        omega (arith, ap length (nothing_begun n s rest))
    go false e h later = later h.1
