-- "Counts are 32 bits": none is ever above 4,294,967,295.
use Prim.Native.Nat.{ℕ, ◌+◌, ◌≤◌}
use mathlib.Core.Path.{◌≡◌, refl, sym, subst}
use mathlib.Core.Bool.{Bool, true, false, cond}
use mathlib.Core.List.{List, [], ◌∷◌}
use native.Mathlib.Omega.{arith}
use borrow.Author.Tests.{ltb-true}
use lib.Dec.{ltb}
use Rattle.meter_rules.specs.Meters.{Meter, Meters, at_zero, most, up}
use Rattle.meter_rules.specs.Calls.{Call, meters_next, meters_after}
use Rattle.meter_rules.proofs.Counting.{Counts, OfEach, of_each_lem}

up_most : (happened : Bool) (n : ℕ) → n ≤ most → up happened n ≤ most
up_most false n l = l
up_most true n l = go (ltb n most) refl
  where
    go : (t : Bool) → ltb n most ≡ t → cond t (n + 1) n ≤ most
    go true e = omega (arith, ltb-true n most e)
    go false e = l

stays_most : (p : ℕ) (count : Meter → ℕ) (test : Call → Bool) → Counts p count test
    → (ms : Meters) (cs : List Call) → count (ms p) ≤ most → count (meters_after ms cs p) ≤ most
unfolding meters_next
stays_most p count test k ms [] l = l
stays_most p count test k ms (c ∷ cs) l =
    stays_most p count test k (meters_next c ms) cs (subst (λ (n : ℕ). n ≤ most) (sym (k.next c (ms p))) (up_most (test c) (count (ms p)) l))

pub counts_most : (ms : Meters) (cs : List Call) (p : ℕ) → OfEach p (λ count _. count (ms p) ≤ most → count (meters_after ms cs p) ≤ most)
counts_most ms cs p = of_each_lem p _ (λ count test k. stays_most p count test k ms cs)

pub from_zero_most : (cs : List Call) (p : ℕ) → OfEach p (λ count _. count (meters_after at_zero cs p) ≤ most)
from_zero_most cs p = of_each_lem p _ (λ count test k. stays_most p count test k at_zero cs (omega (arith, k.starts)))
