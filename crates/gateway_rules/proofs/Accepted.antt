-- That the accepted messages of a history are exactly those that the steps accept.
use Prim.Native.Nat.{ℕ, zero, suc}
use mathlib.Core.Path.{◌≡◌, refl, sym, ap, ◌∙◌, subst}
use mathlib.Core.Logic.{◌↔◌}
use mathlib.Core.Bool.{false}
use mathlib.Core.List.{List, [], ◌∷◌, ◌++◌, append-nil, append_assoc}
use native.Mathlib.Omega.{arith}
use Rattle.basics.specs.Refusals.{first_of}
use Rattle.gateway_rules.specs.State.{Gate, out_of_bounds}
use Rattle.gateway_rules.specs.Step.{step_tests, step, start}
use Rattle.gateway_rules.specs.History.{Entry, after, Heard, heard_of, accepted, as_heard}
use Rattle.gateway_rules.proofs.Sending.{refusal_first}
use Rattle.gateway_rules.proofs.Hearing.{heard_by, heard_by_number}
use Rattle.gateway_rules.proofs.Demand3.{start_box}
use Rattle.gateway_rules.proofs.Unnested.{always_in_bounds}

-- ---- one entry, from any state in bounds

one_or_none : (s : Heard) → s ∷ [] ≡ [] → ⊥
one_or_none s e = let z : ◌≡◌ {A = ℕ} 0 1 = cc in omega arith

by_number : (e : Entry) (n : ℕ)
    → ((n ≡ 0) ↔ (heard_by e n ≡ as_heard e ∷ []))
    × ((n ≡ 0 → ⊥) ↔ (heard_by e n ≡ []))
by_number e zero = ((λ _. refl, λ _. refl), (λ h. absurd (h refl), λ z. absurd (one_or_none (as_heard e) z)))
by_number e (suc n) = ((λ z. let w : ⊥ = omega (arith, z) in absurd w, λ z. absurd (one_or_none (as_heard e) (sym z))), (λ _. refl, λ _ z. omega (arith, z)))

-- A step's refusal is 0 exactly when the message is heard, and then it is the one that the bytes hold; else nothing is heard.
pub step_accepts : (g : Gate) (e : Entry) → out_of_bounds g ≡ false
    → (((step g e.port e.bytes).refusal ≡ 0) ↔ (heard_of g.ports e ≡ as_heard e ∷ []))
    × (((step g e.port e.bytes).refusal ≡ 0 → ⊥) ↔ (heard_of g.ports e ≡ []))
step_accepts g e i =
    let number = first_of (step_tests g e.port e.bytes) in
    subst (λ (n : ℕ). ((n ≡ 0) ↔ (heard_of g.ports e ≡ as_heard e ∷ [])) × ((n ≡ 0 → ⊥) ↔ (heard_of g.ports e ≡ [])))
    (sym (refusal_first g e.port e.bytes))
    (subst (λ (l : List Heard). ((number ≡ 0) ↔ (l ≡ as_heard e ∷ [])) × ((number ≡ 0 → ⊥) ↔ (l ≡ []))) (sym (heard_by_number g e i)) (by_number e number))

-- ---- every history

accepted_end : (ports : ℕ) (h : List Entry) (e : Entry) → accepted ports (h ++ (e ∷ [])) ≡ accepted ports h ++ heard_of ports e
unfolding accepted
accepted_end ports [] e = append-nil (heard_of ports e)
accepted_end ports (x ∷ h) e = ap (λ (l : List Heard). heard_of ports x ++ l) (accepted_end ports h e) ∙ sym (append_assoc (heard_of ports x) (accepted ports h) (heard_of ports e))

-- From a start, an entry more is a message more where the step's refusal is 0, and nothing more where it is not.
pub history_accepts : (ports r : ℕ) → (start ports r).refusal ≡ 0 → (h : List Entry) (e : Entry)
    → ((step (after (start ports r).next h) e.port e.bytes).refusal ≡ 0 → accepted ports (h ++ (e ∷ [])) ≡ accepted ports h ++ (as_heard e ∷ []))
    × (((step (after (start ports r).next h) e.port e.bytes).refusal ≡ 0 → ⊥) → accepted ports (h ++ (e ∷ [])) ≡ accepted ports h)
history_accepts ports r s h e =
    let g = after (start ports r).next h in
    let one = step_accepts g e (always_in_bounds ports r s h).0 in
    let there : g.ports ≡ ports = start_box ports r s h in (
      λ z. accepted_end ports h e ∙ ap (λ (l : List Heard). accepted ports h ++ l) (ap (λ (n : ℕ). heard_of n e) (sym there) ∙ one.0.0 z),
      λ z. accepted_end ports h e ∙ ap (λ (l : List Heard). accepted ports h ++ l) (ap (λ (n : ℕ). heard_of n e) (sym there) ∙ one.1.0 z) ∙ append-nil (accepted ports h),
    )
