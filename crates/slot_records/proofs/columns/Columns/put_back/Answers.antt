use Prim.Native.Nat.{ℕ, ◌+◌}
use mathlib.Core.Path.{◌≡◌, refl, sym, ap, ◌∙◌}
use mathlib.Core.List.{List}
use native.Mathlib.Numerals.{add-one}
use lib.ListN.{get_or, set}
use Rattle.slot_records.specs.declared.Slot.{Slot}
use Rattle.slot_records.specs.declared.columns.Columns.{Columns}
use Rattle.slot_records.specs.Columns.{back, scattered, no_slot}
use Rattle.slot_records.proofs.columns.Columns.put_back.Goals as goal

pub loop-i-init : goal.loop-i-init
unfolding scattered
loop-i-init c = refl

scattered_more : (ss : List Slot) (d : Columns) (k : ℕ) → set (scattered ss d k) k (back d k (get_or (scattered ss d k) k no_slot)) ≡ scattered ss d (k + 1)
unfolding scattered
scattered_more ss d k = ap (scattered ss d) (sym (add-one k))

pub loop-i-preserved : goal.loop-i-preserved
loop-i-preserved c =
    let d = c.args.self.now in
    let i = c.loop-i.i in
    ap (set c.loop-i.slots i) c.back.ensures ∙ ap (λ (zs : List Slot). set zs i (back d i (get_or zs i no_slot))) c.loop-i.invariant ∙ scattered_more c.args.slots.now d i
