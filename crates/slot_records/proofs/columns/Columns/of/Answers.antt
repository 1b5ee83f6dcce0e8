use Prim.Native.Nat.{ℕ, ◌+◌}
use mathlib.Core.Path.{◌≡◌, refl, sym, ap, ◌∙◌}
use mathlib.Core.List.{List}
use native.Mathlib.Numerals.{add-one}
use lib.ListN.{get_or}
use Rattle.slot_records.specs.declared.Slot.{Slot}
use Rattle.slot_records.specs.declared.columns.Columns.{Columns}
use Rattle.slot_records.specs.Columns.{placed, gathered, no_slot}
use Rattle.slot_records.proofs.columns.Columns.of.Goals as goal

pub loop-i-init : goal.loop-i-init
unfolding gathered
loop-i-init c = refl

gathered_more : (ss : List Slot) (k : ℕ) → placed (gathered ss k) k (get_or ss k no_slot) ≡ gathered ss (k + 1)
unfolding gathered
gathered_more ss k = ap (gathered ss) (sym (add-one k))

pub loop-i-preserved : goal.loop-i-preserved
loop-i-preserved c =
    let ss = c.args.slots.now in
    let i = c.loop-i.i in
    c.place.ensures ∙ ap (λ (t : Columns). placed t i (get_or ss i no_slot)) c.loop-i.invariant ∙ gathered_more ss i
