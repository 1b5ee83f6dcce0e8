-- Adding the bit is at most doubling.
use Prim.Native.Nat.{ℕ, ◌+◌}
use mathlib.Core.Path.{sym, ap}
use native.Mathlib.Omega.{arith}
use native.Mathlib.Nat.{add-zero}
use Rattle.basics.proofs.Bits.{one_bit, bit_fits}
use Rattle.gateway.proofs.port_sets.put.Goals as goal

pub overflow_add-result : goal.overflow_add-result
overflow_add-result c = let a = c.args in let bit = one_bit 8 a.p (omega arith) in omega (arith, bit, bit_fits 8 a.set a.p (omega arith) (omega arith))

pub returns-then-yes : goal.returns-then-yes
returns-then-yes c =
    let a = c.args in
    rw c.if-yes.true (ap (λ (x : ℕ). a.set + x) (one_bit 8 a.p (omega arith)))

pub returns-else-yes : goal.returns-else-yes
returns-else-yes c = rw c.if-yes.false (sym (add-zero c.args.set))
