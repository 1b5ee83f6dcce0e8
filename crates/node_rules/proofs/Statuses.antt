-- N1: every status stays one of the three.
use Prim.Native.Nat.{ℕ, zero, suc, ◌≤◌}
use mathlib.Core.Path.{sym, subst}
use mathlib.Core.List.{List, [], ◌∷◌}
use borrow.Author.Tests.{ltb-false}
use lib.ListN.{length, get_or, set}
use Rattle.node_rules.specs.declared.Call.{Call}
use Rattle.node_rules.specs.Boards.{Board, unknown, status_of}
use Rattle.node_rules.specs.Calls.{Outcome}
use Rattle.node_rules.specs.Histories.{Made, given_by, after}
use Rattle.node_rules.proofs.Marking.{advertising_keeps}
use Rattle.node_rules.proofs.Steps.{Happened, happened}
use Rattle.node_rules.proofs.Steps.Happened.{refused, restarts, identifies, reports, sets}

set_small : (xs : List ℕ) (j a n : ℕ) → a ≤ n → ((i : ℕ) → get_or xs i 0 ≤ n) → (i : ℕ) → get_or (set xs j a) i 0 ≤ n
set_small [] j a n h small i = small i
set_small (x ∷ xs) zero a n h small zero = h
set_small (x ∷ xs) zero a n h small (suc i) = small (suc i)
set_small (x ∷ xs) (suc j) a n h small zero = small zero
set_small (x ∷ xs) (suc j) a n h small (suc i) = set_small xs j a n h (λ k. small (suc k)) i

stays : {b : Board} {c : Call} {o : Outcome} → Happened b c o → ((i : ℕ) → status_of b.slots i ≤ unknown) → (i : ℕ) → status_of o.next.slots i ≤ unknown
stays (refused n h) small i = small i
stays (restarts s h) small i = small i
stays {b = b} (identifies js matches s h q) small i = subst (λ (l : List ℕ). get_or l i 0 ≤ unknown) (sym (advertising_keeps js b.slots).statuses) (small i)
stays (reports j s h k r m) small i = small i
stays {b = b} (sets j status s l) small i = set_small b.slots.statuses j status unknown (ltb-false unknown status l) small i

-- Over any calls, refused ones among them.
pub statuses_stay : (b : Board) → ((i : ℕ) → status_of b.slots i ≤ unknown) → (cs : List Made) (i : ℕ) → status_of (after b cs).slots i ≤ unknown
statuses_stay b small [] = small
statuses_stay b small (c ∷ cs) = statuses_stay (given_by b c).next (stays (happened b c.call c.bytes (length c.out)) small) cs
