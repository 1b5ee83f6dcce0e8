-- A list of slot records and one of its four lists: taken apart, and put back.
use Prim.Native.Nat.{ℕ, zero, suc, ◌≤◌, ◌<◌}
use native.Mathlib.Nat.{eq-or-lt_of_le, le_of_suc-le-suc, not-suc-le-zero}
use native.Mathlib.Omega.{arith}
use mathlib.Core.Path.{◌≡◌, refl, sym, ap, subst, ◌∙◌}
use mathlib.Core.Logic.{inl, inr}
use mathlib.Core.List.{List, map}
use lib.ListN.{length, get_or, set, replicate, take, length-set, length-map, length-replicate, get_or-map}
use lib.Seq.{get_or-set_same, get_or-set_other, get_or-take, ext_get_or, length-take-le}
use Rattle.slot_records.specs.declared.Slot.{Slot}
use Rattle.slot_records.specs.declared.columns.Columns.{Columns}
use Rattle.slot_records.specs.Columns.{places, blank_of, placed, slot_at, back, no_slot, gathered, scattered}
use Rattle.slot_records.proofs.Places.{back_within}

-- ---- the records, put back

module _ (ss : List Slot) (d : Columns) where
  pub scattered_length : (k : ℕ) → length (scattered ss d k) ≡ length ss
  unfolding scattered
  scattered_length zero = refl
  scattered_length (suc k) = length-set (scattered ss d k) k (back d k (get_or (scattered ss d k) k no_slot)) ∙ scattered_length k

  untouched : (k i : ℕ) → k ≤ i → get_or (scattered ss d k) i no_slot ≡ get_or ss i no_slot
  unfolding scattered
  untouched zero i l = refl
  untouched (suc k) i l = get_or-set_other (scattered ss d k) k i (back d k (get_or (scattered ss d k) k no_slot)) no_slot (omega arith) ∙ untouched k i (omega arith)

  pub scattered_at : (k i : ℕ) → i < k → k ≤ length ss → get_or (scattered ss d k) i no_slot ≡ back d i (get_or ss i no_slot)
  unfolding scattered
  scattered_at zero i l h = absurd (not-suc-le-zero l)
  scattered_at (suc k) i l h =
      let before = scattered ss d k in
      let new = back d k (get_or before k no_slot) in
      elim (eq-or-lt_of_le (le_of_suc-le-suc l)) [
        | inl e ↦ subst (λ (j : ℕ). get_or (set before k new) j no_slot ≡ back d j (get_or ss j no_slot)) (sym e)
            (get_or-set_same before k new no_slot (subst (λ (m : ℕ). k < m) (sym (scattered_length k)) h) ∙ ap (back d k) (untouched k k (omega arith)))
        | inr m ↦ get_or-set_other before k i new no_slot (omega arith) ∙ scattered_at k i m (omega arith)
      ]

-- ---- one of the four lists: which number of a slot it has, and where it stands in the columns

pub record Way : Type 0 where
  pub of : Slot → ℕ
  pub list : Columns → List ℕ
  pub none : of no_slot ≡ 0
  pub blank : (n : ℕ) → list (blank_of n) ≡ replicate places 0
  pub put : (c : Columns) (i : ℕ) (s : Slot) → list (placed c i s) ≡ set (list c) i (of s)
  pub at : (c : Columns) (i : ℕ) → of (slot_at c i) ≡ get_or (list c) i 0

abbrev pub by_role : Way
by_role = record { of = λ s. s.role; list = λ c. c.roles; none = refl; blank = λ n. refl; put = λ c i s. refl; at = λ c i. refl }

abbrev pub by_event : Way
by_event = record { of = λ s. s.event; list = λ c. c.events; none = refl; blank = λ n. refl; put = λ c i s. refl; at = λ c i. refl }

abbrev pub by_status : Way
by_status = record { of = λ s. s.status; list = λ c. c.statuses; none = refl; blank = λ n. refl; put = λ c i s. refl; at = λ c i. refl }

abbrev pub by_mark : Way
by_mark = record { of = λ s. s.mark; list = λ c. c.marks; none = refl; blank = λ n. refl; put = λ c i s. refl; at = λ c i. refl }

module _ (w : Way) where
  abbrev of : Slot → ℕ
  of = w.of

  abbrev list : Columns → List ℕ
  list = w.list

  module _ (ss : List Slot) where
    pub gathered_length : (k : ℕ) → length (list (gathered ss k)) ≡ places
    unfolding gathered
    gathered_length zero = ap (λ (l : List ℕ). length l) (w.blank (length ss)) ∙ length-replicate {A = ℕ} places 0
    gathered_length (suc k) =
        ap (λ (l : List ℕ). length l) (w.put (gathered ss k) k (get_or ss k no_slot)) ∙ length-set (list (gathered ss k)) k (of (get_or ss k no_slot)) ∙ gathered_length k

    gathered_at_lem : (k i : ℕ) → i < k → i < places → get_or (list (gathered ss k)) i 0 ≡ of (get_or ss i no_slot)
    unfolding gathered
    gathered_at_lem zero i l h = absurd (not-suc-le-zero l)
    gathered_at_lem (suc k) i l h =
        let before = list (gathered ss k) in
        let new = of (get_or ss k no_slot) in
        ap (λ (x : List ℕ). get_or x i 0) (w.put (gathered ss k) k (get_or ss k no_slot)) ∙ elim (eq-or-lt_of_le (le_of_suc-le-suc l)) [
          | inl e ↦ subst (λ (j : ℕ). get_or (set before k new) j 0 ≡ of (get_or ss j no_slot)) (sym e)
              (get_or-set_same before k new 0 (subst (λ (m : ℕ). k < m) (sym (gathered_length k)) (subst (λ (j : ℕ). j < places) e h)))
          | inr m ↦ get_or-set_other before k i new 0 (omega arith) ∙ gathered_at_lem k i m h
        ]

    -- A number of a slot, by either list.
    of_at : (us : List Slot) (i : ℕ) → get_or (map of us) i 0 ≡ of (get_or us i no_slot)
    of_at us i = subst (λ (z : ℕ). get_or (map of us) i z ≡ of (get_or us i no_slot)) w.none (get_or-map of us i no_slot)

    -- Few slots: the list used is the slots' own ..
    pub gathered_short : length ss < places → take (length ss) (list (gathered ss (length ss))) ≡ map of ss
    gathered_short short =
        let n = length ss in
        let l : length (take n (list (gathered ss n))) ≡ n = length-take-le n (list (gathered ss n)) (subst (λ (m : ℕ). n ≤ m) (sym (gathered_length n)) (omega arith)) in
        ext_get_or 0 (take n (list (gathered ss n))) (map of ss) (l ∙ sym (length-map ss of)) (λ i h.
        let m : i < n = subst (λ (k : ℕ). i < k) l h in
        get_or-take n (list (gathered ss n)) i 0 m ∙ gathered_at_lem n i m (omega arith) ∙ sym (of_at ss i))

    module _ (d : Columns) (long_enough : length (list d) ≡ places) where
      -- .. and the records that are put back have the list of the columns.
      pub scattered_short : length ss < places → map of (scattered ss d (length ss)) ≡ take (length ss) (list d)
      scattered_short short =
          let n = length ss in
          let zs = scattered ss d n in
          let l : length (map of zs) ≡ n = length-map zs of ∙ scattered_length ss d n in
          ext_get_or 0 (map of zs) (take n (list d)) (l ∙ sym (length-take-le n (list d) (subst (λ (m : ℕ). n ≤ m) (sym long_enough) (omega arith)))) (λ i h.
          let m : i < n = subst (λ (k : ℕ). i < k) l h in
          of_at zs i ∙ ap of (scattered_at ss d n i m (omega arith) ∙ sym (back_within d i (get_or ss i no_slot) (omega arith))) ∙ w.at d i ∙ sym (get_or-take n (list d) i 0 m))

    -- Many slots: columns that kept their list have each slot's number.
    pub kept_at : (d : Columns) → places ≤ length ss → take places (list d) ≡ take places (list (gathered ss (length ss))) → (i : ℕ) → i < places → get_or (list d) i 0 ≡ of (get_or ss i no_slot)
    kept_at d long kept i l =
        let n = length ss in
        sym (get_or-take places (list d) i 0 l) ∙ ap (λ (x : List ℕ). get_or x i 0) kept ∙ get_or-take places (list (gathered ss n)) i 0 l ∙ gathered_at_lem n i (omega arith) l
