-- A call of the node on the places that are used, and the columns after it.
use Prim.Native.Nat.{ℕ, ◌≤◌, min}
use native.Mathlib.Omega.{arith}
use mathlib.Core.Path.{◌≡◌, refl, sym, ap, ◌∙◌}
use mathlib.Core.Bool.{Bool, true, false}
use mathlib.Core.List.{List, ◌++◌}
use lib.Dec.{ltb}
use lib.ListN.{length, take, drop}
use lib.Seq.{take_at, length_front, length-take-le}
use borrow.Author.Tests.{ltb-true, ltb-false}
use Rattle.node_rules.specs.declared.Node.{Node}
use Rattle.node_rules.specs.declared.Call.{Call}
use Rattle.node_rules.specs.Boards.{Slots}
use Rattle.node.specs.declared.Answer.{Answer}
use Rattle.node.specs.Lent.{slots_of}
use Rattle.node.specs.Answers.{result, result_of}
use Rattle.slot_records.specs.declared.columns.Columns.{Columns}
use Rattle.slot_records.specs.Columns.{places, few, columns_of, used, Fits}
use Rattle.slot_records.proofs.Places.{few_short, few_long}

few_most : (n : ℕ) → few n ≤ places
few_most n = by_test (ltb n places) refl
  where
    by_test : (t : Bool) → ltb n places ≡ t → few n ≤ places
    by_test true e = let l = ltb-true n places e in omega (arith, few_short n l)
    by_test false e = omega (arith, few_long n (ltb-false n places e))

pub few_min : (n : ℕ) → min n places ≡ few n
few_min n = by_test (ltb n places) refl
  where
    by_test : (t : Bool) → ltb n places ≡ t → min n places ≡ few n
    by_test true e = let l = ltb-true n places e in omega (arith, few_short n l)
    by_test false e = let l = ltb-false n places e in omega (arith, few_long n l)

-- So many places are there.
pub few_within : (n m : ℕ) (l : List ℕ) → m ≡ few n → length l ≡ places → m ≤ length l
few_within n m l e full = let most = few_most n in omega (arith, e)

-- A call on the places used, m of them: what it left in the two lists that were lent for a change stands in the columns again.
module _ (node : Node) (call : Call) (bytes out : List ℕ) (c : Columns) (fits : Fits c.count c) (m : ℕ) (e : m ≡ few c.count) where
  abbrev lent : Slots
  lent = slots_of (take m c.roles) (take m c.events) (take m c.statuses) (take m c.marks)

  lent_used : lent ≡ used c
  lent_used = ap (λ (m : ℕ). slots_of (take m c.roles) (take m c.events) (take m c.statuses) (take m c.marks)) e

  -- A list of which the places used were lent, once they are back.
  module _ (ys old : List ℕ) (l : length ys ≡ length (take m old)) (full : length old ≡ places) where
    back_used : take (few c.count) (ys ++ drop m old) ≡ ys
    back_used = take_at ys (drop m old) (few c.count) (l ∙ length-take-le m old (few_within c.count m old e full) ∙ e)

    back_length : length (ys ++ drop m old) ≡ places
    back_length = length_front old ys m l ∙ full

  module _ (us ys : List ℕ) (lu : length us ≡ length (take m c.statuses)) (ly : length ys ≡ length (take m c.marks)) where
    abbrev after : Columns
    after = columns_of c.count c.roles c.events (us ++ drop m c.statuses) (ys ++ drop m c.marks)

    abbrev returned : Slots
    returned = slots_of (take m c.roles) (take m c.events) us ys

    after_used : used after ≡ returned
    after_used i = slots_of (take (sym e i) c.roles) (take (sym e i) c.events) (back_used us c.statuses lu fits.statuses i) (back_used ys c.marks ly fits.marks i)

    pub call_left : {a : Answer} {out' : List ℕ} → result a returned out' ≡ result_of node call bytes lent out → (result a (used after) out' ≡ result_of node call bytes (used c) out) × Fits c.count after
    call_left {a} {out'} h = (
      ap (λ (s : Slots). result a s out') after_used ∙ h ∙ ap (λ (s : Slots). result_of node call bytes s out) lent_used,
      record { count = refl; roles = fits.roles; events = fits.events; statuses = back_length us c.statuses lu fits.statuses; marks = back_length ys c.marks ly fits.marks },
    )
