-- A box whose index is that of its table stays one, and does what its gate alone does; any other is refused with 7, and nothing changes.
use Prim.Native.Nat.{ℕ, ◌<◌}
use mathlib.Core.Path.{◌≡◌, refl, sym, ap, ap₂, ◌∙◌, subst}
use mathlib.Core.Logic.{◌↔◌}
use mathlib.Core.Bool.{Bool, true, false, cond, not}
use mathlib.Core.List.{List, [], ◌∷◌}
use borrow.Author.Tests.{eqb-false, not-false}
use lib.Dec.{eqb}
use Rattle.basics.proofs.Bools.{both}
use Rattle.gateway_rules.specs.declared.Line.{Line}
use Rattle.basics.specs.Refusals.{refuse, first_of, answered}
use Rattle.message.specs.Reading.{message_in}
use Rattle.gateway_rules.specs.State.{Gate, bad_ports, start_of}
use Rattle.gateway_rules.specs.Step.{Outcome, refusing, start, starting, step}
use Rattle.gateway_rules.specs.History.{Entry, after, accepted, Reports, HeldBack}
use Rattle.gateway_rules.proofs.Demand3.{demand_3}
use Rattle.gateway_rules.proofs.Sending.{refused_nothing}
use Rattle.index_rules.specs.Index.{Index, index_of}
use Rattle.index_rules.proofs.Sorted.{same_numbers_lem, same_refl}
use Rattle.index_rules.specs.Boxes.{Box, Right, strays, box_step, index_after, box_next, started_box, box_after}

-- ---- the test

-- An index strays exactly where it is not that of its table.
pub strays_not : (lines : List Line) → strays (index_of lines) lines ≡ false
unfolding strays
strays_not lines = rw (same_refl (index_of lines).order) (ap not (same_refl (index_of lines).sets))

pub not_strays : (x : Index) (lines : List Line) → strays x lines ≡ false → x ≡ index_of lines
unfolding strays
not_strays x lines e =
    let h = both _ _ (not-false _ e) in
    ap₂ (λ (o s : List ℕ). record { order = o; sets = s }) (same_numbers_lem x.order (index_of lines).order h.0) (same_numbers_lem x.sets (index_of lines).sets h.1)

-- ---- an index that is not that of its table

module _ (b : Box) (q : ℕ) (bytes : List ℕ) (astray : strays b.index b.gate.lines ≡ true) where
  pub wrong_index : box_step b q bytes ≡ refusing b.gate 7
  wrong_index = ap (λ (t : Bool). cond t (refusing b.gate 7) (step b.gate q bytes)) astray

  -- Nothing changes.
  pub wrong_index_kept : box_next b q bytes ≡ b
  wrong_index_kept = ap (λ (o : Outcome). record { gate = o.next; index = index_after b.index o }) wrong_index

-- ---- an index that is that of its table

-- The box does what its gate alone does.
pub gate_alone_step : (b : Box) (q : ℕ) (bytes : List ℕ) → Right b → box_step b q bytes ≡ step b.gate q bytes
gate_alone_step b q bytes i =
    let agrees : strays b.index b.gate.lines ≡ false = ap (λ (x : Index). strays x b.gate.lines) i ∙ strays_not b.gate.lines in
    ap (λ (t : Bool). cond t (refusing b.gate 7) (step b.gate q bytes)) agrees

-- After a call, accepted or refused, the index is that of its table.
pub index_next : (b : Box) (q : ℕ) (bytes : List ℕ) → Right b → Right (box_next b q bytes)
index_next b q bytes i = ap (index_after b.index) alone ∙ kept (eqb o.refusal 0) refl ∙ ap (λ (x : Outcome). index_of x.next.lines) (sym alone)
  where
    o : Outcome
    o = step b.gate q bytes

    alone : box_step b q bytes ≡ o
    alone = gate_alone_step b q bytes i

    kept : (t : Bool) → eqb o.refusal 0 ≡ t → index_after b.index o ≡ index_of o.next.lines
    kept true e = rw e
    kept false e = rw e (i ∙ ap (λ (g : Gate). index_of g.lines) (sym (refused_nothing b.gate q bytes (eqb-false o.refusal 0 e)).0))

-- ---- histories

-- "After every call the index is that of its table."
pub index_always : (b : Box) → Right b → (h : List Entry) → Right (box_after b h)
index_always b i [] = i
index_always b i (e ∷ h) = index_always (box_next b e.port e.bytes) (index_next b e.port e.bytes i) h

-- The gate of the box is what its gate alone would be: so every theorem on `after` holds of it.
pub gate_alone : (b : Box) → Right b → (h : List Entry) → (box_after b h).gate ≡ after b.gate h
gate_alone b i [] = refl
gate_alone b i (e ∷ h) =
    gate_alone (box_next b e.port e.bytes) (index_next b e.port e.bytes i) h
    ∙ ap (λ (o : Outcome). after o.next h) (gate_alone_step b e.port e.bytes i)

-- So does its answer to the next message.
pub after_alone : (b : Box) → Right b → (h : List Entry) (q : ℕ) (bytes : List ℕ) → box_step (box_after b h) q bytes ≡ step (after b.gate h) q bytes
after_alone b i h q bytes = gate_alone_step (box_after b h) q bytes (index_always b i h) ∙ ap (λ (g : Gate). step g q bytes) (gate_alone b i h)

pub started_right : (ports r : ℕ) → Right (started_box ports r)
unfolding start
started_right ports r = sym (ap index_of (no_lines (bad_ports ports)))
  where
    no_lines : (t : Bool) → (answered (starting 0) (λ n. starting n (start_of 0 r)) (first_of (refuse 8 t ∷ [])) (start_of ports r)).next.lines ≡ []
    no_lines true = refl
    no_lines false = refl

-- Demand 3 of a box with its index: word for word that of `gateway_rules`, with the box's own steps.
pub demand_3_indexed : (ports r : ℕ) → (start ports r).refusal ≡ 0
    → (h : List Entry) (q : ℕ) (bytes : List ℕ) → (box_step (box_after (started_box ports r) h) q bytes).refusal ≡ 0
    → (e : ℕ) → Reports e (message_in bytes) → (p : ℕ) → p < ports → (p ≡ q → ⊥)
    → ((box_step (box_after (started_box ports r) h) q bytes).to p ≡ false) ↔ HeldBack (start ports r).next (accepted ports h) p e
demand_3_indexed ports r s h q bytes taken e report p there other =
    let alone = after_alone (started_box ports r) (started_right ports r) h q bytes in
    subst (λ (o : Outcome). (o.to p ≡ false) ↔ HeldBack (start ports r).next (accepted ports h) p e) (sym alone)
    (demand_3 ports r s h q bytes (sym (ap (λ (o : Outcome). o.refusal) alone) ∙ taken) e report p there other)
