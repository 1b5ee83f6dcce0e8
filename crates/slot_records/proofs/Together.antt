-- What `perform` leaves: the records put together again are the slots that the rules give.
use Prim.Native.Nat.{ℕ, zero, suc, ◌≤◌, ◌<◌}
use native.Mathlib.Omega.{arith}
use mathlib.Core.Path.{◌≡◌, refl, sym, ap, subst, ◌∙◌}
use mathlib.Core.Bool.{Bool, true, false}
use mathlib.Core.List.{List}
use lib.Dec.{ltb}
use lib.ListN.{length, length-map, get_or, take}
use lib.Seq.{ext_get_or, length-take-le}
use borrow.Author.Tests.{ltb-true, ltb-false, lt-ltb, eq-eqb}
use Rattle.node_rules.specs.declared.Node.{Node}
use Rattle.node_rules.specs.declared.Call.{Call}
use Rattle.node_rules.specs.Boards.{Slots, bad_lengths}
use Rattle.node_rules.specs.Calls.{refusing, outcome}
use Rattle.node.proofs.Limits.{bounds_lengths}
use Rattle.node.specs.declared.Answer.{Answer}
use Rattle.node.specs.Lent.{slots_of, board_of}
use Rattle.node.specs.Answers.{Result, result, result_by, result_of}
use Rattle.slot_records.specs.declared.Slot.{Slot}
use Rattle.slot_records.specs.declared.columns.Columns.{Columns}
use Rattle.slot_records.specs.Apart.{apart}
use Rattle.slot_records.specs.Columns.{places, few, back, no_slot, used, Fits, gathered, scattered}
use Rattle.slot_records.proofs.Places.{few_short, few_long, back_within, back_beyond}
use Rattle.slot_records.proofs.Gathered.{scattered_length, scattered_at, Way, by_role, by_event, by_status, by_mark, gathered_length, gathered_short, scattered_short, kept_at}

gathered_count : (ss : List Slot) (k : ℕ) → (gathered ss k).count ≡ length ss
unfolding gathered
gathered_count ss zero = refl
gathered_count ss (suc k) = gathered_count ss k

-- ---- a law for each of the four lists

module _ (ss : List Slot) where
  abbrev n : ℕ
  n = length ss

  abbrev c : Columns
  c = gathered ss n

  used_at : (d : Columns) (m : ℕ) → few d.count ≡ m → used d ≡ slots_of (take m d.roles) (take m d.events) (take m d.statuses) (take m d.marks)
  used_at d m e = ap (λ (m : ℕ). slots_of (take m d.roles) (take m d.events) (take m d.statuses) (take m d.marks)) e

  taken_apart : ltb n places ≡ true → used c ≡ apart ss
  taken_apart e =
      let short = ltb-true n places e in
      let r = gathered_short by_role ss short in
      let v = gathered_short by_event ss short in
      let u = gathered_short by_status ss short in
      let m = gathered_short by_mark ss short in
      used_at c n (ap few (gathered_count ss n) ∙ few_short n (ltb-true n places e)) ∙ λ i. slots_of (r i) (v i) (u i) (m i)

  module _ (d : Columns) (fits : Fits c.count d) where
    count_kept : d.count ≡ n
    count_kept = fits.count ∙ gathered_count ss n

    put_back : ltb n places ≡ true → apart (scattered ss d n) ≡ used d
    put_back e =
        let short = ltb-true n places e in
        let r = scattered_short by_role ss d fits.roles short in
        let v = scattered_short by_event ss d fits.events short in
        let u = scattered_short by_status ss d fits.statuses short in
        let m = scattered_short by_mark ss d fits.marks short in
        (λ i. slots_of (r i) (v i) (u i) (m i)) ∙ sym (used_at d n (ap few count_kept ∙ few_short n (ltb-true n places e)))

    -- Many slots, of which the columns kept every number: the records are as they were.
    unchanged : ltb n places ≡ false → used d ≡ used c → scattered ss d n ≡ ss
    unchanged e same =
        let long = ltb-false n places e in
        let number-kept : (w : Way) → take places (w.list d) ≡ take places (w.list c) → (i : ℕ) → i < places → get_or (w.list d) i 0 ≡ w.of (get_or ss i no_slot) = λ w kept. kept_at w ss d long kept in
        let kept : slots_of (take places d.roles) (take places d.events) (take places d.statuses) (take places d.marks) ≡ slots_of (take places c.roles) (take places c.events) (take places c.statuses) (take places c.marks)
        = sym (used_at d places (ap few count_kept ∙ few_long n (ltb-false n places e))) ∙ same ∙ used_at c places (ap few (gathered_count ss n) ∙ few_long n (ltb-false n places e)) in
        ext_get_or no_slot (scattered ss d n) ss (scattered_length ss d n) (λ i h.
        let l : i < n = subst (λ (m : ℕ). i < m) (scattered_length ss d n) h in
        scattered_at ss d n i l (omega arith) ∙ by_place i (number-kept by_role (ap (λ (s : Slots). s.roles) kept) i) (number-kept by_event (ap (λ (s : Slots). s.events) kept) i) (number-kept by_status (ap (λ (s : Slots). s.statuses) kept) i) (number-kept by_mark (ap (λ (s : Slots). s.marks) kept) i) (ltb i places) refl)
      where
        by_place : (i : ℕ) → (i < places → get_or d.roles i 0 ≡ (get_or ss i no_slot).role) → (i < places → get_or d.events i 0 ≡ (get_or ss i no_slot).event) → (i < places → get_or d.statuses i 0 ≡ (get_or ss i no_slot).status) → (i < places → get_or d.marks i 0 ≡ (get_or ss i no_slot).mark)
            → (t : Bool) → ltb i places ≡ t → back d i (get_or ss i no_slot) ≡ get_or ss i no_slot
        by_place i r v u m true t =
            let l = ltb-true i places t in
            sym (back_within d i (get_or ss i no_slot) l) ∙ λ j. record { role = r l j; event = v l j; status = u l j; mark = m l j }
        by_place i r v u m false t = sym (back_beyond d i (get_or ss i no_slot) (ltb-false i places t))

-- ---- too many slots are out of bounds, and every call refuses them

too_many : (n r e s m : ℕ) → r ≡ n → e ≡ n → s ≡ n → m ≡ n → places ≤ n → bad_lengths r e s m ≡ true
too_many n r e s m p q u v long = rw (p, q, u, v, eq-eqb n n refl, lt-ltb 64 n long)

module _ (node : Node) (call : Call) (bytes : List ℕ) (room : ℕ) where
  barred : (s : Slots) (n : ℕ) → length s.roles ≡ n → length s.events ≡ n → length s.statuses ≡ n → length s.marks ≡ n → places ≤ n → outcome (board_of node s) call bytes room ≡ refusing (board_of node s) 7
  unfolding outcome
  barred s n r v u m long = rw (bounds_lengths (board_of node s) (too_many n (length s.roles) (length s.events) (length s.statuses) (length s.marks) r v u m long))

  module _ (ss : List Slot) (e : ltb (length ss) places ≡ false) where
    abbrev long : places ≤ length ss
    long = ltb-false (length ss) places e

    barred_apart : outcome (board_of node (apart ss)) call bytes room ≡ refusing (board_of node (apart ss)) 7
    barred_apart = barred (apart ss) (length ss) (length-map ss (λ s. s.role)) (length-map ss (λ s. s.event)) (length-map ss (λ s. s.status)) (length-map ss (λ s. s.mark)) long

    barred_used : outcome (board_of node (used (c ss))) call bytes room ≡ refusing (board_of node (used (c ss))) 7
    barred_used =
        let at : few (c ss).count ≡ places = ap few (gathered_count ss (length ss)) ∙ few_long (length ss) long in
        let full : (w : Way) → length (take (few (c ss).count) (w.list (c ss))) ≡ places
        = λ w. ap (λ (m : ℕ). length (take m (w.list (c ss)))) at ∙ length-take-le places (w.list (c ss)) (subst (λ (m : ℕ). places ≤ m) (sym (gathered_length w ss (length ss))) (omega arith)) in
        barred (used (c ss)) places (full by_role) (full by_event) (full by_status) (full by_mark) (omega arith)

-- ---- the three parts of `perform` in a row: gathered, called, put back

module _ (node : Node) (call : Call) (bytes out : List ℕ) (ss : List Slot) (a : Answer) (d : Columns) (out' : List ℕ) where
  abbrev zs : List Slot
  zs = scattered ss d (length ss)

  by_size_lem : result a (used d) out' ≡ result_of node call bytes (used (c ss)) out → Fits (c ss).count d → (t : Bool) → ltb (length ss) places ≡ t
      → result a (apart zs) out' ≡ result_of node call bytes (apart ss) out
  by_size_lem did fits true e = ap (λ (s : Slots). result a s out') (put_back ss d fits e) ∙ did ∙ ap (λ (s : Slots). result_of node call bytes s out) (taken_apart ss e)
  by_size_lem did fits false e =
      let refused : result a (used d) out' ≡ result_by out (refusing (board_of node (used (c ss))) 7) = did ∙ ap (result_by out) (barred_used node call bytes (length out) ss e) in
      let same = unchanged ss d fits e (ap (λ (l : Result). l.slots) refused) in
      (λ i. result (refused i).answer (apart (same i)) (refused i).out) ∙ ap (result_by out) (sym (barred_apart node call bytes (length out) ss e))

  pub put_together : {c₀ : Columns} {us : List Slot} → c₀ ≡ gathered ss (length ss) → result a (used d) out' ≡ result_of node call bytes (used c₀) out → Fits c₀.count d
      → us ≡ zs → result a (apart us) out' ≡ result_of node call bytes (apart ss) out
  put_together gathers done fits scatters =
      ap (λ (us : List Slot). result a (apart us) out') scatters
      ∙ by_size_lem (subst (λ (g : Columns). result a (used d) out' ≡ result_of node call bytes (used g) out) gathers done) (subst (λ (g : Columns). Fits g.count d) gathers fits) (ltb (length ss) places) refl
