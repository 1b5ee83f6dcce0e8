-- Which slots are marked after some have been identified.
use Prim.Native.Nat.{ℕ}
use mathlib.Core.Path.{◌≡◌, refl, ap, ◌∙◌}
use mathlib.Core.Logic.{◌⊎◌, inl, inr, ⊎_elim}
use mathlib.Core.Bool.{Bool, true, false, cond, ◌||◌, or-true}
use mathlib.Core.List.{List, [], ◌∷◌}
use native.Mathlib.Omega.{arith}
use borrow.Author.Tests.{eqb-true}
use lib.Dec.{eqb}
use lib.ListN.{length}
use Rattle.basics.proofs.Bools.{both}
use Rattle.basics.proofs.Each.{each_there}
use Rattle.basics.specs.Lists.{any}
use Rattle.node_rules.specs.Boards.{Slots, advertised, role_of, event_of, mark_of, has_at, advertise}
use Rattle.node_rules.specs.Sending.{advertising}

-- ---- advertising

-- The slot has the role and Event ID of another.
abbrev pub like : Slots → ℕ → ℕ → Bool
like s j i = has_at s.roles s.events (role_of s j) (event_of s j) i

marked_by : (t : Bool) (old : ℕ) → cond t advertised old ≡ advertised → (old ≡ advertised) ⊎ (t ≡ true)
marked_by true old h = inr refl
marked_by false old h = inl h

advertise_marks : (s : Slots) (j i : ℕ) → mark_of (advertise s j) i ≡ advertised → (mark_of s i ≡ advertised) ⊎ (like s j i ≡ true)
advertise_marks s j i h = marked_by (like s j i) (mark_of s i) (each_there (length s.marks) (λ i. cond (like s j i) advertised (mark_of s i)) 0 advertised i (λ z. omega (arith, z)) h)

-- A slot is marked where it was, or where one that was identified has its role and Event ID.
pub advertising_marks : (js : List ℕ) (s : Slots) (i : ℕ) → mark_of (advertising s js) i ≡ advertised
    → (mark_of s i ≡ advertised) ⊎ (any (λ j. like s j i) js ≡ true)
advertising_marks [] s i h = inl h
advertising_marks (j ∷ js) s i h =
    ⊎_elim (λ m. ⊎_elim inl (λ l. inr (ap (λ (t : Bool). t || any (λ j. like s j i) js) l)) (advertise_marks s j i m))
    (λ a. inr (ap (λ (t : Bool). like s j i || t) a ∙ or-true (like s j i)))
    (advertising_marks js (advertise s j) i h)

-- Roles, Event IDs and statuses stay.
pub record Kept (s t : Slots) : Type 0 where
  pub roles : t.roles ≡ s.roles
  pub events : t.events ≡ s.events
  pub statuses : t.statuses ≡ s.statuses

pub advertising_keeps : (js : List ℕ) (s : Slots) → Kept s (advertising s js)
advertising_keeps [] s = record { roles = refl; events = refl; statuses = refl }
advertising_keeps (j ∷ js) s =
    let k = advertising_keeps js (advertise s j) in
    record { roles = k.roles; events = k.events; statuses = k.statuses }

pub like_same : (s : Slots) (j i : ℕ) → like s j i ≡ true → (role_of s i ≡ role_of s j) × (event_of s i ≡ event_of s j)
like_same s j i h =
    let p = both (eqb (role_of s i) (role_of s j)) (eqb (event_of s i) (event_of s j)) h in
    (eqb-true (role_of s i) (role_of s j) p.0, eqb-true (event_of s i) (event_of s j) p.1)
