-- G2: from a start a state is always in bounds, and no line of a port and node is inside another (document 02, W4).
use Prim.Native.Nat.{ℕ, ◌≤◌}
use mathlib.Core.Path.{◌≡◌, refl, sym, ap, ap₂, ◌∙◌, subst}
use mathlib.Core.Bool.{Bool, true, false, cond, not, ◌&&◌, ◌||◌, or-false, true≢false}
use mathlib.Core.List.{List, [], ◌∷◌, ◌++◌}
use borrow.Author.Tests.{not-true}
use lib.ListN.{length}
use Rattle.basics.specs.Lists.{any, without}
use Rattle.basics.proofs.Bools.{both, neither}
use Rattle.basics.proofs.Lists.{any_append, without_none, none_stays}
use Rattle.basics.proofs.Sinces.{by_end}
use Rattle.message.specs.declared.Message.{Message}
use Rattle.gateway_rules.specs.declared.Line.{Line}
use Rattle.gateway_rules.specs.State.{Gate, full, out_of_bounds, start_of}
use Rattle.gateway_rules.specs.Step.{line, within, held_by, covered, holds_some, unnested, of_node, start}
use Rattle.gateway_rules.specs.History.{Entry, after, Heard, accepted, left_by}
use Rattle.gateway_rules.proofs.Within.{within_self}
use Rattle.gateway_rules.proofs.Changes.{Change, change_of, left_end}
use Rattle.gateway_rules.proofs.Changes.Change.{restarted, covered_already, replaced, added, opened, passed}
use Rattle.gateway_rules.proofs.Bounds.{bounded_in, bounded_start}
use Rattle.gateway_rules.proofs.Hearing.{history_left}
use Rattle.gateway_rules.proofs.Demand3.{start_taken}

-- ---- lines of which none is inside another

-- What it says of a line and all that stand behind it.
apart_from : (l : Line) (lines : List Line) → unnested (l ∷ lines) ≡ true → (covered lines l ≡ false) × (holds_some lines l ≡ false) × (unnested lines ≡ true)
unfolding unnested
apart_from l lines u =
    let parts = both (not (covered lines l || holds_some lines l)) (unnested lines) u in
    let none = neither (covered lines l) (holds_some lines l) (not-true (covered lines l || holds_some lines l) parts.0) in
    (none.0, none.1, parts.1)

put_before : (l : Line) (lines : List Line) → covered lines l ≡ false → holds_some lines l ≡ false → unnested lines ≡ true → unnested (l ∷ lines) ≡ true
unfolding unnested
put_before l lines c h u = ap₂ (λ (x y : Bool). not x && y) (ap₂ (λ (x y : Bool). x || y) c h) u

none_unnested : unnested [] ≡ true
unfolding unnested
none_unnested = refl

-- Of two places, whichever stands first, neither line is inside the other.
pub none_inside : (before : List Line) (a : Line) (between : List Line) (b : Line) (later : List Line)
    → unnested (before ++ (a ∷ (between ++ (b ∷ later)))) ≡ true → (within a b ≡ false) × (within b a ≡ false)
none_inside [] a between b later u =
    let w = apart_from a (between ++ (b ∷ later)) u in
    let at : (test : Line → Bool) → any test (between ++ (b ∷ later)) ≡ false → test b ≡ false
    = λ test f. (neither (test b) (any test later) (neither (any test between) (any test (b ∷ later)) (sym (any_append test between (b ∷ later)) ∙ f)).1).0 in
    (at (within a) w.0, at (held_by a) w.1)
none_inside (x ∷ before) a between b later u = none_inside before a between b later (apart_from x (before ++ (a ∷ (between ++ (b ∷ later)))) u).2

-- So no two places have equal lines.
pub none_equal : (before : List Line) (a : Line) (between : List Line) (b : Line) (later : List Line)
    → unnested (before ++ (a ∷ (between ++ (b ∷ later)))) ≡ true → a ≡ b → ⊥
none_equal before a between b later u e =
    true≢false (sym (within_self b) ∙ ap (λ (x : Line). within x b) (sym e) ∙ (none_inside before a between b later u).0)

unnested_append : (lines : List Line) (l : Line) → unnested lines ≡ true → covered lines l ≡ false → holds_some lines l ≡ false → unnested (lines ++ (l ∷ [])) ≡ true
unnested_append [] l u c h = put_before l [] refl refl none_unnested
unnested_append (x ∷ xs) l u c h =
    let parts = apart_from x xs u in
    let outside = neither (within l x) (covered xs l) c in
    let holds = neither (held_by l x) (holds_some xs l) h in
    let more : (test : Line → Bool) → any test xs ≡ false → test l ≡ false → any test (xs ++ (l ∷ [])) ≡ false
    = λ test f g. any_append test xs (l ∷ []) ∙ ap₂ (λ (a b : Bool). a || b) f (or-false (test l) ∙ g) in
    put_before x (xs ++ (l ∷ [])) (more (within x) parts.0 holds.0) (more (held_by x) parts.1 outside.0) (unnested_append xs l parts.2 outside.1 holds.1)

unnested_without : (out : Line → Bool) (lines : List Line) → unnested lines ≡ true → unnested (without out lines) ≡ true
unnested_without out [] u = u
unnested_without out (x ∷ xs) u = go (out x) (apart_from x xs u) (unnested_without out xs)
  where
    go : (t : Bool) → (covered xs x ≡ false) × (holds_some xs x ≡ false) × (unnested xs ≡ true) → (unnested xs ≡ true → unnested (without out xs) ≡ true)
        → unnested (cond t (without out xs) (x ∷ without out xs)) ≡ true
    go true parts rest = rest parts.2
    go false parts rest =
        put_before x (without out xs) (without_none (within x) out xs parts.0) (without_none (held_by x) out xs parts.1) (rest parts.2)

unnested_change : (g : Gate) (q : ℕ) (m : Message) → unnested g.lines ≡ true → {g' : Gate} → Change g q m g' → unnested g'.lines ≡ true
unnested_change g q m u (restarted e) = unnested_without (of_node m.source) g.lines u
unnested_change g q m u (covered_already b e t) = u
unnested_change g q m u (replaced b e f t) =
    let l = line q m.source b in
    unnested_append (without (held_by l) g.lines) l (unnested_without (held_by l) g.lines u) (without_none (within l) (held_by l) g.lines f) (none_stays (held_by l) g.lines)
unnested_change g q m u (added b e n room) = unnested_append g.lines (line q m.source b) u n.not_inside n.holds_none
unnested_change g q m u (opened b e n most) = u
unnested_change g q m u (passed e) = u

unnested_left : (g : Gate) → unnested g.lines ≡ true → (h : List Heard) → unnested (left_by g h).lines ≡ true
unnested_left g u =
    by_end (λ (h : List Heard). unnested (left_by g h).lines ≡ true) u
    (λ h s e. ap (λ (x : Gate). unnested x.lines) (left_end g h s) ∙ unnested_change (left_by g h) s.port s.message e (change_of (left_by g h) s.port s.message))

-- ---- from a start

-- In bounds, at most 256 lines, and none of them inside another, after every history.
pub always_in_bounds : (ports r : ℕ) → (start ports r).refusal ≡ 0 → (h : List Entry)
    → (out_of_bounds (after (start ports r).next h) ≡ false) × (length (after (start ports r).next h).lines ≤ full) × (unnested (after (start ports r).next h).lines ≡ true)
always_in_bounds ports r s h =
    let begun = start_taken ports r s in
    let g = start_of ports r in
    let left = history_left g (bounded_start ports r begun.0) h in
    subst (λ (g : Gate). (out_of_bounds (after g h) ≡ false) × (length (after g h).lines ≤ full) × (unnested (after g h).lines ≡ true)) (sym begun.1) (
      bounded_in (after g h) left.bounded,
      left.bounded.few,
      ap (λ (x : Gate). unnested x.lines) left.as_left ∙ unnested_left g none_unnested (accepted ports h),
    )
