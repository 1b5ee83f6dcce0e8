-- How large what a step answers can be.
use Prim.Native.Nat.{ℕ, ◌≤◌}
use mathlib.Core.List.{List, [], ◌∷◌}
use mathlib.Core.Path.{refl}
use native.Mathlib.Nat.{le_trans}
use native.Mathlib.Omega.{arith}
use lib.ListN.{length, length-append}
use Rattle.message.specs.declared.Message.{Message}
use Rattle.message.specs.Reading.{message_in}
use Rattle.basics.specs.Lists.{without}
use Rattle.basics.proofs.Lists.{fewer_without}
use Rattle.basics.proofs.Firsts.{first_up_to}
use Rattle.gateway_rules.specs.State.{Gate, full}
use Rattle.gateway_rules.specs.Step.{line, held_by, step_tests, step}
use Rattle.gateway_rules.proofs.Changes.{Change, change_of, restart_few, by_step}
use Rattle.gateway_rules.proofs.Changes.Change.{restarted, covered_already, replaced, added, opened, passed}
use Rattle.gateway_rules.proofs.Sending.{refusal_first}

-- The box refuses with 8 at most.
pub step_up_to : (g : Gate) (q : ℕ) (bytes : List ℕ) → (step g q bytes).refusal ≤ 8
step_up_to g q bytes = omega (arith, refusal_first g q bytes, first_up_to 8 (step_tests g q bytes) refl)

-- A table of at most 256 lines stays one.
few_changed : (g : Gate) (q : ℕ) (m : Message) → length g.lines ≤ full → {g' : Gate} → Change g q m g' → length g'.lines ≤ full
few_changed g q m h (restarted e) = le_trans (restart_few g q m.source) h
few_changed g q m h (covered_already b e t) = h
few_changed g q m h (replaced b e f t) =
    let l = line q m.source b in
    omega (arith, length-append (without (held_by l) g.lines) (l ∷ []), fewer_without (held_by l) g.lines t, h)
few_changed g q m h (added b e n room) = omega (arith, length-append g.lines (line q m.source b ∷ []), room)
few_changed g q m h (opened b e n most) = h
few_changed g q m h (passed e) = h

pub step_few : (g : Gate) (q : ℕ) (bytes : List ℕ) → length g.lines ≤ full → length (step g q bytes).next.lines ≤ full
step_few g q bytes h = by_step g q bytes (λ (x : Gate). length x.lines ≤ full) h (few_changed g q (message_in bytes) h (change_of g q (message_in bytes)))
