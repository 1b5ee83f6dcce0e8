-- A step and a question on lent lists: where nothing is outside they are those of the table.
use Prim.Native.Nat.{ℕ}
use mathlib.Core.Path.{◌≡◌, refl, sym, ap, ap₂, ◌∙◌}
use mathlib.Core.Bool.{Bool, true, false, cond, not, ◌||◌, or-false}
use mathlib.Core.List.{List, []}
use borrow.Author.Tests.{eqb-true, not-false}
use lib.Dec.{eqb}
use lib.ListN.{length}
use Rattle.basics.specs.Refusals.{refused}
use Rattle.basics.proofs.Bools.{neither}
use Rattle.basics.proofs.Sets.{nobody}
use Rattle.gateway_rules.specs.State.{out_of_bounds}
use Rattle.gateway_rules.specs.Step.{Outcome, refusing, step}
use Rattle.gateway_rules.specs.Reasons.{why_told}
use Rattle.index_rules.specs.Index.{Index, index_of}
use Rattle.index_rules.specs.Boxes.{Box, Right, strays, box_step, index_after}
use Rattle.index_rules.proofs.Boxes.{strays_not, not_strays, gate_alone_step, index_next}
use Rattle.gateway.specs.declared.state.Head.{Head}
use Rattle.gateway.specs.declared.LentAnswer.{LentAnswer}
use Rattle.gateway.specs.State.{Lists, IndexLists, lines_in, gate_in, index_in, box_in, Whole, head_with}
use Rattle.gateway.specs.Answers.{Seen, seen_lent, seen_of, bad_lengths, bad_index_lengths, bad_lists, lent_step, LentRefusalKeeps, outside}
use Rattle.gateway.specs.Asking.{box_why, lent_why}
use Rattle.gateway.specs.Indexing.{WholeIndex}
use Rattle.gateway_rules.proofs.Asking.{why_at_7}
use Rattle.gateway.proofs.Stepping.{step_at_7}

-- ---- lists as long as they should be

is_long : (xs : List ℕ) (n : ℕ) → not (eqb (length xs) n) ≡ false → length xs ≡ n
is_long xs n e = eqb-true (length xs) n (not-false (eqb (length xs) n) e)

pub whole_lists : (t : Lists) → bad_lengths (length t.nodes) (length t.starts) (length t.ports) (length t.sizes) ≡ false → Whole t
whole_lists t e =
    let h = neither (not (eqb (length t.nodes) 256)) (not (eqb (length t.starts) 256) || (not (eqb (length t.ports) 256) || not (eqb (length t.sizes) 256))) e in
    let k = neither (not (eqb (length t.starts) 256)) (not (eqb (length t.ports) 256) || not (eqb (length t.sizes) 256)) h.1 in
    let v = neither (not (eqb (length t.ports) 256)) (not (eqb (length t.sizes) 256)) k.1 in
    (is_long t.nodes 256 h.0, is_long t.starts 256 k.0, is_long t.ports 256 v.0, is_long t.sizes 256 v.1)

pub whole_index : (x : IndexLists) → bad_index_lengths (length x.order) (length x.sets) ≡ false → WholeIndex x
whole_index x e =
    let u = neither (not (eqb (length x.order) 256)) (not (eqb (length x.sets) 9)) e in
    (is_long x.order 256 u.0, is_long x.sets 9 u.1)

-- A box whose index is right is asked of its gate alone.
pub right_why : (b : Box) (q p : ℕ) (bytes : List ℕ) → Right b → box_why b q p bytes ≡ why_told b.gate q p bytes
right_why b q p bytes r =
    ap (λ (y : Bool). cond y (refused 7 []) (why_told b.gate q p bytes)) (ap (λ (y : Index). strays y b.gate.lines) r ∙ strays_not b.gate.lines)

-- ---- a state that is 7, and one that is not

module _ (head : Head) (t : Lists) (x : IndexLists) where
  abbrev stray : Bool
  stray = strays (index_in head.count x) (lines_in head.count t)

  parts : outside head t x ≡ false → (bad_lists t x ≡ false) × (out_of_bounds (gate_in head t) ≡ false) × (stray ≡ false)
  parts e =
      let h = neither (bad_lists t x) (out_of_bounds (gate_in head t) || stray) e in
      let k = neither (out_of_bounds (gate_in head t)) stray h.1 in
      (h.0, k.0, k.1)

  pub inside_bounds : outside head t x ≡ false → out_of_bounds (gate_in head t) ≡ false
  inside_bounds e = (parts e).1

  -- The index is that of the lines.
  pub inside_right : outside head t x ≡ false → index_in head.count x ≡ index_of (lines_in head.count t)
  inside_right e = not_strays (index_in head.count x) (lines_in head.count t) (parts e).2

  pub inside_whole : outside head t x ≡ false → Whole t × WholeIndex x
  inside_whole e =
      let l = neither (bad_lengths (length t.nodes) (length t.starts) (length t.ports) (length t.sizes)) (bad_index_lengths (length x.order) (length x.sets)) (parts e).0 in
      (whole_lists t l.0, whole_index x l.1)

  -- Once the tests before the index are known.
  pub outside_by : {l i o : Bool} → bad_lengths (length t.nodes) (length t.starts) (length t.ports) (length t.sizes) ≡ l
      → bad_index_lengths (length x.order) (length x.sets) ≡ i
      → out_of_bounds (gate_in head t) ≡ o
      → outside head t x ≡ ((l || i) || (o || stray))
  outside_by e f g = λ z. (e z || f z) || (g z || stray)

  not_bad : Whole t → WholeIndex x → bad_lists t x ≡ false
  not_bad w v = rw (w.0, w.1, w.2, w.3, v.0, v.1)

  module _ (q : ℕ) (bytes : List ℕ) where
    abbrev by_tests : Bool → Bool → Outcome
    by_tests y z = cond y (refusing (gate_in head t) 7) (cond z (refusing (gate_in head t) 7) (step (gate_in head t) q bytes))

    lent_by : (y z : Bool) → bad_lists t x ≡ y → stray ≡ z → lent_step head t x q bytes ≡ by_tests y z
    unfolding gate_in
    lent_by y z e f = ap₂ by_tests e f

    pub outside_step : outside head t x ≡ true → lent_step head t x q bytes ≡ refusing (gate_in head t) 7
    outside_step e = go (bad_lists t x) stray refl refl
      where
        go : (y z : Bool) → bad_lists t x ≡ y → stray ≡ z → lent_step head t x q bytes ≡ refusing (gate_in head t) 7
        go true z f g = lent_by true z f g
        go false true f g = lent_by false true f g
        go false false f g =
            lent_by false false f g
            ∙ step_at_7 (gate_in head t) q bytes (sym (or-false (out_of_bounds (gate_in head t))) ∙ sym (ap₂ (λ (y z : Bool). y || (out_of_bounds (gate_in head t) || z)) f g) ∙ e)

    pub inside_step : outside head t x ≡ false → lent_step head t x q bytes ≡ step (gate_in head t) q bytes
    inside_step e = lent_by false false (parts e).0 (parts e).2

    pub outside_why : (p : ℕ) → outside head t x ≡ true → lent_why head t x q p bytes ≡ refused 7 []
    outside_why p e = go (bad_lists t x || stray) refl
      where
        go : (y : Bool) → (bad_lists t x || stray) ≡ y → lent_why head t x q p bytes ≡ refused 7 []
        go true f = ap (λ (y : Bool). cond y (refused 7 []) (why_told (gate_in head t) q p bytes)) f
        go false f =
            let h = neither (bad_lists t x) stray f in
            ap (λ (y : Bool). cond y (refused 7 []) (why_told (gate_in head t) q p bytes)) f
            ∙ why_at_7 (gate_in head t) q p bytes (sym (or-false (out_of_bounds (gate_in head t))) ∙ sym (ap₂ (λ (y z : Bool). y || (out_of_bounds (gate_in head t) || z)) h.0 h.1) ∙ e)

    pub inside_why : (p : ℕ) → outside head t x ≡ false → lent_why head t x q p bytes ≡ why_told (gate_in head t) q p bytes
    inside_why p e = ap₂ (λ (y z : Bool). cond (y || z) (refused 7 []) (why_told (gate_in head t) q p bytes)) (parts e).0 (parts e).2

    -- Lists as long as they should be.
    pub whole_box : Whole t → WholeIndex x → lent_step head t x q bytes ≡ box_step (box_in head t x) q bytes
    whole_box w v = ap (λ (y : Bool). cond y (refusing (gate_in head t) 7) (box_step (box_in head t x) q bytes)) (not_bad w v)

    -- The same with the right index.
    pub whole_step : Whole t → WholeIndex x → Right (box_in head t x) → lent_step head t x q bytes ≡ step (gate_in head t) q bytes
    whole_step w v r = whole_box w v ∙ gate_alone_step (box_in head t x) q bytes r

    pub whole_asked : (p : ℕ) → Whole t → WholeIndex x → lent_why head t x q p bytes ≡ box_why (box_in head t x) q p bytes
    unfolding gate_in
    whole_asked p w v = ap (λ (y : Bool). cond (y || stray) (refused 7 []) (why_told (gate_in head t) q p bytes)) (not_bad w v)

    pub whole_why : (p : ℕ) → Whole t → WholeIndex x → Right (box_in head t x) → lent_why head t x q p bytes ≡ why_told (gate_in head t) q p bytes
    whole_why p w v r = whole_asked p w v ∙ right_why (box_in head t x) q p bytes r

    -- A refusal that the step gives, and that leaves the index.
    pub refusal_given : (r : LentAnswer) (n : ℕ) → (r.refusal ≡ n) × (r.sent ≡ 0) × (r.marks ≡ head.marks) × (r.count ≡ head.count)
        → lent_step head t x q bytes ≡ refusing (gate_in head t) n
        → index_after (index_in head.count x) (refusing (gate_in head t) n) ≡ index_in head.count x
        → (seen_lent head r t x ≡ seen_of (index_in head.count x) (lent_step head t x q bytes)) × LentRefusalKeeps head t x r t x
    refusal_given r n (number, nowhere, marks, count) e kept =
        let told : seen_lent head r t x ≡ seen_of (index_in head.count x) (refusing (gate_in head t) n)
        = λ i. record {
          refusal = number i;
          sent = (nowhere ∙ sym (nobody 8)) i;
          gate = gate_in (head_with head (marks i) (count i)) t;
          index = (ap (λ (k : ℕ). index_in k x) count ∙ sym kept) i;
        } in
        (told ∙ ap (seen_of (index_in head.count x)) (sym e), λ _. (marks, count, refl, refl))

  -- A refusal of any number leaves an index that is right.
  pub right_kept : (n : ℕ) → index_in head.count x ≡ index_of (lines_in head.count t) → index_after (index_in head.count x) (refusing (gate_in head t) n) ≡ index_in head.count x
  unfolding gate_in
  right_kept n r = go (eqb n 0)
    where
      go : (y : Bool) → cond y (index_of (lines_in head.count t)) (index_in head.count x) ≡ index_in head.count x
      go true = sym r
      go false = refl

-- ---- what is seen of a box whose index is right

pub right_next : (b : Box) (q : ℕ) (bytes : List ℕ) {s : Seen} → Right b → s ≡ seen_of b.index (box_step b q bytes) → s.index ≡ index_of s.gate.lines
right_next b q bytes r e = ap (λ (s : Seen). s.index) e ∙ index_next b q bytes r ∙ sym (ap (λ (s : Seen). index_of s.gate.lines) e)

pub gate_next : (b : Box) (q : ℕ) (bytes : List ℕ) {s : Seen} → Right b → s ≡ seen_of b.index (box_step b q bytes) → s.gate ≡ (step b.gate q bytes).next
gate_next b q bytes r e = ap (λ (s : Seen). s.gate) e ∙ ap (λ (o : Outcome). o.next) (gate_alone_step b q bytes r)

-- The same on lent lists.
pub right_left : (head : Head) (t : Lists) (x : IndexLists) (q : ℕ) (bytes : List ℕ) (a : LentAnswer) (u : Lists) (y : IndexLists) → Whole t → WholeIndex x → Right (box_in head t x)
    → seen_lent head a u y ≡ seen_of (index_in head.count x) (lent_step head t x q bytes)
    → Right (box_in (head_with head a.marks a.count) u y)
right_left head t x q bytes a u y w v r e = right_next (box_in head t x) q bytes r (e ∙ ap (seen_of (index_in head.count x)) (whole_box head t x q bytes w v))
