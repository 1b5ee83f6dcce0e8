-- A port that is there already changes nothing; another is put in by its bit.
use Prim.Native.Nat.{ℕ, ◌+◌, ◌^◌}
use mathlib.Core.Path.{◌≡◌, ap, ◌∙◌}
use mathlib.Core.Bool.{◌||◌}
use native.Mathlib.Omega.{arith}
use lib.Dec.{eqb}
use borrow.Author.Tests.{eq-eqb, ne_eqb}
use Rattle.basics.specs.Sets.{set_of, in_set}
use Rattle.basics.proofs.Sets.{set_below}
use Rattle.basics.proofs.Bits.{one_bit}
use Rattle.gateway.proofs.Bits.{in_put, in_had}
use Rattle.gateway.proofs.port_sets.with_port.Goals as goal

pub overflow_add-result : goal.overflow_add-result
overflow_add-result c =
    let a = c.args in
    let sum : a.set + 2 ^ a.port ≡ set_of 8 (λ p. in_set a.set p || eqb a.port p) = in_put 8 a.set a.port (omega arith) (omega arith) (ne_eqb _ 1 c.if-set-port-eq1.false) in omega (arith, sum, one_bit 8 a.port (omega arith), set_below 8 (λ p. in_set a.set p || eqb a.port p))

pub returns-then-set-port-eq1 : goal.returns-then-set-port-eq1
returns-then-set-port-eq1 c =
    let a = c.args in
    in_had 8 a.set a.port (omega arith) (eq-eqb _ 1 c.if-set-port-eq1.true)

pub returns-else-set-port-eq1 : goal.returns-else-set-port-eq1
returns-else-set-port-eq1 c =
    let a = c.args in
    ap (λ (x : ℕ). a.set + x) (one_bit 8 a.port (omega arith)) ∙ in_put 8 a.set a.port (omega arith) (omega arith) (ne_eqb _ 1 c.if-set-port-eq1.false)
