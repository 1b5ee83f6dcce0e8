-- Messages accepted at a port are document 01's accepted messages there, which are told without the table.
use Prim.Native.Nat.{ℕ, ◌+◌}
use mathlib.Core.Path.{◌≡◌, refl, sym, ap, ap₂, ◌∙◌}
use mathlib.Core.Bool.{Bool, true, false, cond, not, ◌&&◌}
use mathlib.Core.List.{List, [], ◌∷◌, ◌++◌}
use borrow.Author.Tests.{eqb-true, eqb-false}
use lib.Dec.{eqb}
use lib.ListN.{length, length-append}
use Rattle.basics.specs.Lists.{without}
use Rattle.basics.proofs.Lists.{without_append}
use Rattle.gateway_rules.specs.State.{Gate, out_of_bounds}
use Rattle.gateway_rules.specs.Step.{Outcome, step}
use Rattle.gateway_rules.specs.History.{Entry, Heard, heard_of, accepted, as_heard}
use Rattle.gateway_rules.proofs.Accepted.{step_accepts}
use Rattle.index_rules.specs.Boxes.{Box, Right, box_next}
use Rattle.index_rules.proofs.Boxes.{gate_alone_step, index_next}
use Rattle.meter_rules.specs.Calls.{accepts, calls, how_many}
use Rattle.meter_rules.proofs.Fair.{ports_next}
use Rattle.meter_rules.proofs.InBounds.{step_in_bounds}

-- How many messages came in by a port.
abbrev pub heard_at_port : ℕ → List Heard → ℕ
heard_at_port p heard = length (without (λ s. not (eqb s.port p)) heard)

at_port_append : (p : ℕ) (xs ys : List Heard) → heard_at_port p (xs ++ ys) ≡ heard_at_port p xs + heard_at_port p ys
at_port_append p xs ys =
    let out : Heard → Bool = λ s. not (eqb s.port p) in
    ap length (without_append out xs ys) ∙ length-append (without out xs) (without out ys)

step_hears : (g : Gate) (e : Entry) (p : ℕ) → out_of_bounds g ≡ false
    → cond (eqb (step g e.port e.bytes).refusal 0 && eqb e.port p) 1 0 ≡ heard_at_port p (heard_of g.ports e)
step_hears g e p i = go (eqb refusal 0) refl
  where
    refusal : ℕ
    refusal = (step g e.port e.bytes).refusal

    one : (here : Bool) → cond here 1 0 ≡ length (cond (not here) [] (as_heard e ∷ []))
    one true = refl
    one false = refl

    go : (t : Bool) → eqb refusal 0 ≡ t → cond (t && eqb e.port p) 1 0 ≡ heard_at_port p (heard_of g.ports e)
    go true f = one (eqb e.port p) ∙ sym (ap (heard_at_port p) ((step_accepts g e i).0.0 (eqb-true refusal 0 f)))
    go false f = sym (ap (heard_at_port p) ((step_accepts g e i).1.0 (eqb-false refusal 0 f)))

pub accepted_heard : (b : Box) → Right b → out_of_bounds b.gate ≡ false → (h : List Entry) (p : ℕ)
    → how_many (accepts p) (calls b h) ≡ heard_at_port p (accepted b.gate.ports h)
unfolding accepted
accepted_heard b right i [] p = refl
accepted_heard b right i (e ∷ h) p =
    let alone = gate_alone_step b e.port e.bytes right in
    let b' = box_next b e.port e.bytes in
    let i' : out_of_bounds b'.gate ≡ false = ap (λ (o : Outcome). out_of_bounds o.next) alone ∙ step_in_bounds b.gate e i in
    ap₂ (λ (x y : ℕ). x + y)
    (ap (λ (o : Outcome). cond (eqb o.refusal 0 && eqb e.port p) 1 0) alone ∙ step_hears b.gate e p i)
    (accepted_heard b' (index_next b e.port e.bytes right) i' h p ∙ ap (λ (n : ℕ). heard_at_port p (accepted n h)) (ports_next b e.port e.bytes))
    ∙ sym (at_port_append p (heard_of b.gate.ports e) (accepted b.gate.ports h))
