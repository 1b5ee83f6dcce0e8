use Prim.Native.Nat.{ℕ, ◌+◌, ◌*◌, ◌%◌, ◌^◌}
use mathlib.Core.Path.{refl, ap₂, ◌∙◌}
use Rattle.numbers.specs.Numbers.{spelled}
use Rattle.numbers.proofs.Laws.{spelled_on}
use Rattle.numbers.proofs.read.Goals as goal

pub loop-byte-init : goal.loop-byte-init
unfolding spelled
loop-byte-init c = refl

pub loop-byte-preserved : goal.loop-byte-preserved
loop-byte-preserved c =
    ap₂ (λ (x y : ℕ). x % 2 ^ 56 * 256 + y) c.loop-byte.invariant c.from.ensures ∙ spelled_on c.args.bytes.now c.loop-byte.byte-index (λ k. (c.type_inv.bytes k).fits)
