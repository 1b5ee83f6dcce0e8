use Prim.Native.Nat.{ℕ, ◌+◌, ◌^◌}
use mathlib.Core.Path.{sym, ap, ◌∙◌}
use mathlib.Core.Bool.{Bool, cond}
use native.Mathlib.Nat.{add-zero}
use native.Mathlib.Omega.{arith}
use Rattle.basics.proofs.Sets.{set_below}
use Rattle.basics.proofs.Bits.{one_bit, bit_fits, next_bit}
use Rattle.node_rules.specs.Boards.{has_at}
use Rattle.node.proofs.board.Board.having.Goals as goal
use Rattle.node.proofs.board.Board.having.Goals.{then-has, else-has}

pub overflow_add-set : goal.overflow_add-set
overflow_add-set c =
    let b = c.args.self.now in
    let i = c.loop-i.i in
    let below = set_below i (has_at b.roles.now b.events.now c.args.role c.args.event) in
    let few = b.checked.few in
    omega (arith, one_bit 64 i (omega arith), bit_fits 64 c.loop-i.set i (omega arith) (omega (arith, c.loop-i.invariant, below)))

pub loop-i-preserved : goal.loop-i-preserved
loop-i-preserved c =
    let b = c.args.self.now in
    let few = b.checked.few in
    let i = c.loop-i.i in
    let set = c.loop-i.set in
    elim c.if-has.branch [
      | then-has w ↦ w.set-is ∙ ap (λ (x : ℕ). set + x) (one_bit 64 i (omega arith)) ∙ sym (ap (λ (t : Bool). set + cond t (2 ^ i) 0) w.if-has.true)
      | else-has w ↦ w.set-is ∙ sym (add-zero set) ∙ sym (ap (λ (t : Bool). set + cond t (2 ^ i) 0) w.if-has.false)
    ] ∙ next_bit (has_at b.roles.now b.events.now c.args.role c.args.event) i set c.has.result c.loop-i.invariant c.has.ensures
