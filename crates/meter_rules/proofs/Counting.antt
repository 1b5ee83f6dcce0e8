-- A mark stays; and while a meter is not marked, each of its counts is how many calls did what it counts.
use Prim.Native.Nat.{ℕ, ◌+◌}
use mathlib.Core.Path.{◌≡◌, refl, sym, ◌∙◌}
use mathlib.Core.Bool.{Bool, true, false, cond, true≢false}
use mathlib.Core.List.{List, [], ◌∷◌}
use native.Mathlib.Omega.{arith}
use borrow.Author.Tests.{leb-false, lt-ltb}
use Rattle.basics.proofs.Bools.{neither}
use Rattle.gateway_rules.specs.History.{Entry}
use Rattle.index_rules.specs.Boxes.{Box}
use Rattle.meter_rules.specs.Meters.{Meter, Meters, at_zero, most, up, passes}
use Rattle.meter_rules.specs.Calls.{Call, accepts, refuses, takes_in, sends, holds_back, meter_next, meters_next, calls, meters_after, how_many}

next_marked : (ms : Meters) (c : Call) (p : ℕ) → (ms p).marked ≡ true → (meters_next c ms p).marked ≡ true
unfolding meters_next
next_marked ms c p e = rw e

pub stays_marked : (ms : Meters) (cs : List Call) (p : ℕ) → (ms p).marked ≡ true → (meters_after ms cs p).marked ≡ true
stays_marked ms [] p e = e
stays_marked ms (c ∷ cs) p e = stays_marked (meters_next c ms) cs p (next_marked ms c p e)

-- ---- a count and its test

-- A count of the meter at p starts at zero, goes up where a call passes its test, and where it would pass the most marks the meter.
pub record Counts (p : ℕ) (count : Meter → ℕ) (test : Call → Bool) : Type 0 where
  pub starts : count (at_zero p) ≡ 0
  pub next : (c : Call) (m : Meter) → count (meter_next p c m) ≡ up (test c) (count m)
  pub marks : (c : Call) (m : Meter) → (meter_next p c m).marked ≡ false → passes (test c) (count m) ≡ false

-- The same of each of the five counts and its test.
pub record OfEach (p : ℕ) (Holds : (Meter → ℕ) → (Call → Bool) → Type 0) : Type 0 where
  pub accepted : Holds (λ m. m.accepted) (accepts p)
  pub refused : Holds (λ m. m.refused) (refuses p)
  pub reports : Holds (λ m. m.reports) (takes_in p)
  pub sent : Holds (λ m. m.sent) (sends p)
  pub held : Holds (λ m. m.held) (holds_back p)

-- What holds of a count that goes up so holds of all five.
pub of_each_lem : (p : ℕ) (Holds : (Meter → ℕ) → (Call → Bool) → Type 0)
    → ((count : Meter → ℕ) (test : Call → Bool) → Counts p count test → Holds count test) → OfEach p Holds
of_each_lem p Holds h = record {
  accepted = h (λ m. m.accepted) (accepts p) (record { starts = refl; next = λ c m. refl; marks = λ c m e. (none c m e).0 });
  refused = h (λ m. m.refused) (refuses p) (record { starts = refl; next = λ c m. refl; marks = λ c m e. (none c m e).1 });
  reports = h (λ m. m.reports) (takes_in p) (record { starts = refl; next = λ c m. refl; marks = λ c m e. (none c m e).2 });
  sent = h (λ m. m.sent) (sends p) (record { starts = refl; next = λ c m. refl; marks = λ c m e. (none c m e).3 });
  held = h (λ m. m.held) (holds_back p) (record { starts = refl; next = λ c m. refl; marks = λ c m e. (none c m e).4 });
}
  where
    none : (c : Call) (m : Meter) → (meter_next p c m).marked ≡ false
        → (passes (accepts p c) m.accepted ≡ false)
        × (passes (refuses p c) m.refused ≡ false)
        × (passes (takes_in p c) m.reports ≡ false)
        × (passes (sends p c) m.sent ≡ false)
        × (passes (holds_back p c) m.held ≡ false)
    none c m e =
        let a = neither _ _ (neither m.marked _ e).1 in
        let b = neither _ _ a.1 in
        let d = neither _ _ b.1 in
        let f = neither _ _ d.1 in
        (a.0, b.0, d.0, f.0, f.1)

-- ---- while it is not marked

up_counts : (happened : Bool) (n : ℕ) → passes happened n ≡ false → up happened n ≡ n + cond happened 1 0
up_counts true n e = rw (lt-ltb n most (leb-false most n e))
up_counts false n e = omega arith

counted : (p : ℕ) (count : Meter → ℕ) (test : Call → Bool) → Counts p count test → (ms : Meters) (cs : List Call) → (meters_after ms cs p).marked ≡ false
    → count (meters_after ms cs p) ≡ count (ms p) + how_many test cs
unfolding meters_next
counted p count test k ms [] e = omega arith
counted p count test k ms (c ∷ cs) e =
    let rest = counted p count test k (meters_next c ms) cs e in
    let one = k.next c (ms p) ∙ up_counts (test c) (count (ms p)) (k.marks c (ms p) (unmarked (meter_next p c (ms p)).marked refl)) in
    omega (arith, rest, one)
  where
    unmarked : (t : Bool) → (meters_next c ms p).marked ≡ t → (meters_next c ms p).marked ≡ false
    unmarked true f = absurd (true≢false (sym (stays_marked (meters_next c ms) cs p f) ∙ e))
    unmarked false f = f

pub counts_named : (ms : Meters) (cs : List Call) (p : ℕ) → (meters_after ms cs p).marked ≡ false
    → OfEach p (λ count test. count (meters_after ms cs p) ≡ count (ms p) + how_many test cs)
counts_named ms cs p e = of_each_lem p _ (λ count test k. counted p count test k ms cs e)

-- From zero each is how many calls of the history did what it counts.
pub named : (b : Box) (h : List Entry) (p : ℕ) → (meters_after at_zero (calls b h) p).marked ≡ false
    → OfEach p (λ count test. count (meters_after at_zero (calls b h) p) ≡ how_many test (calls b h))
named b h p e = of_each_lem p _ (λ count test k. omega (arith, counted p count test k at_zero (calls b h) e, k.starts))
