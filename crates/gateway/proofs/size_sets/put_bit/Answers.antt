-- A bit that is there already leaves the sets as they are; another is added.
use Prim.Native.Nat.{ℕ, ◌+◌, ◌^◌}
use mathlib.Core.Path.{◌≡◌, sym, ap, ◌∙◌}
use mathlib.Core.Bool.{◌||◌}
use native.Mathlib.Omega.{arith}
use borrow.Author.Tests.{eq-eqb, ne_eqb}
use lib.Dec.{eqb}
use lib.ListN.{get_or, set}
use lib.Seq.{set-get_or}
use Rattle.basics.specs.Sets.{set_of, in_set}
use Rattle.basics.proofs.Sets.{set_below}
use Rattle.basics.proofs.Bits.{one_bit}
use Rattle.gateway.proofs.Bits.{in_put, in_had}
use Rattle.gateway.proofs.size_sets.put_bit.Goals as goal

pub returns-then-held-bit-eq1 : goal.returns-then-held-bit-eq1
returns-then-held-bit-eq1 c =
    let a = c.args in
    let sets = a.sets.now in
    let held = get_or sets a.place 0 in
    let had = in_had 64 held a.bit (omega (arith, c.items_fit a.place)) (eq-eqb _ 1 c.if-held-bit-eq1.true) in
    sym (ap (set sets a.place) (sym had) ∙ set-get_or sets a.place 0)

pub overflow_add-sets : goal.overflow_add-sets
overflow_add-sets c =
    let a = c.args in
    let held = get_or a.sets.now a.place 0 in
    let sum : held + 2 ^ a.bit ≡ set_of 64 (λ b. in_set held b || eqb a.bit b)
    = in_put 64 held a.bit (omega (arith, c.items_fit a.place)) (omega arith) (ne_eqb _ 1 c.if-held-bit-eq1.false) in
    omega (arith, sum, one_bit 64 a.bit (omega arith), set_below 64 (λ b. in_set held b || eqb a.bit b))

pub returns : goal.returns
returns c =
    let a = c.args in
    let held = get_or a.sets.now a.place 0 in
    let sum = in_put 64 held a.bit (omega (arith, c.items_fit a.place)) (omega arith) (ne_eqb _ 1 c.if-held-bit-eq1.false) in
    ap (set a.sets.now a.place) (ap (λ (x : ℕ). held + x) (one_bit 64 a.bit (omega arith)) ∙ sum)
