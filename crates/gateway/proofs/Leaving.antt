-- The state that an accepted message leaves: not more than 256 lines, so that its index is that of the rules.
use Prim.Native.Nat.{ℕ, ◌≤◌}
use mathlib.Core.Path.{◌≡◌, ap, ◌∙◌}
use mathlib.Core.Bool.{false}
use mathlib.Core.List.{[], ◌∷◌}
use native.Mathlib.Nat.{le_trans}
use native.Mathlib.Omega.{arith}
use lib.ListN.{length, length-append}
use Rattle.message.specs.declared.Message.{Message}
use Rattle.basics.specs.Lists.{without}
use Rattle.basics.proofs.Each.{each_length}
use Rattle.basics.proofs.Lists.{fewer_without}
use Rattle.gateway_rules.specs.State.{Gate, full, out_of_bounds}
use Rattle.gateway_rules.specs.Step.{line, held_by, taken}
use Rattle.gateway_rules.proofs.Changes.{Change, restarted, covered_already, replaced, added, opened, passed, change_of, restart_few}
use Rattle.index_rules.specs.Index.{index_of}
use Rattle.gateway.specs.declared.state.Head.{Head}
use Rattle.gateway.specs.State.{Lists, IndexLists, line_at, gate_in, index_in}
use Rattle.gateway.specs.Indexing.{IndexFits}
use Rattle.gateway.proofs.Fitting.{fits_right}
use Rattle.gateway.proofs.InBounds.{head_good, few_lines}

few_taken : (g : Gate) (q : ℕ) (m : Message) → length g.lines ≤ full → length (taken g q m).lines ≤ full
few_taken g q m few = go (change_of g q m)
  where
    go : {g' : Gate} → Change g q m g' → length g'.lines ≤ full
    go (restarted e) = le_trans (restart_few g q m.source) few
    go (covered_already b e t) = few
    go (replaced b e f t) =
        let l = line q m.source b in
        omega (arith, length-append (without (held_by l) g.lines) (l ∷ []), fewer_without (held_by l) g.lines t, few)
    go (added b e n room) = let l = line q m.source b in omega (arith, length-append g.lines (l ∷ []), room)
    go (opened b e n most) = few
    go (passed e) = few

-- What is left by a message that the state in bounds took.
module _ (head : Head) (t : Lists) (q : ℕ) (m : Message) (o : out_of_bounds (gate_in head t) ≡ false) where
  few_before : length (gate_in head t).lines ≤ full
  unfolding gate_in
  few_before = omega (arith, each_length head.count (line_at t), few_lines head (head_good head t o))

  pub left_right : (h : Head) (u : Lists) (y : IndexLists) → gate_in h u ≡ taken (gate_in head t) q m → IndexFits h.count u y
      → index_in h.count y ≡ index_of (taken (gate_in head t) q m).lines
  unfolding gate_in
  left_right h u y e f =
      fits_right h.count (omega (arith, each_length h.count (line_at u), ap (λ (v : Gate). length v.lines) e, few_taken (gate_in head t) q m few_before)) u y f
      ∙ ap (λ (v : Gate). index_of v.lines) e
