-- One that is larger is not inside; of the others the start decides.
use mathlib.Core.Path.{sym, ap, ◌∙◌}
use Prim.Native.Nat.{ℕ}
use native.Mathlib.Omega.{arith}
use lib.Dec.{eqb}
use borrow.Author.Tests.{lt-leb}
use Rattle.range.proofs.Laws.{block_parts}
use Rattle.range.proofs.Comparing.{larger_not_inside, inside_by_start}
use Rattle.range.proofs.inside.Goals as goal

pub prefix-requires : goal.prefix-requires
prefix-requires c = (block_parts c.args.b c.requires.1).0

pub returns-then-a-b : goal.returns-then-a-b
returns-then-a-b c =
    ap (λ (x : ℕ). eqb x c.args.b.start) c.prefix.ensures ∙ sym (inside_by_start c.args.a c.args.b c.requires.0 c.requires.1 (omega (arith, c.if-a-b.true)))

pub returns-else-a-b : goal.returns-else-a-b
returns-else-a-b c =
    lt-leb _ _ (omega (arith, c.if-a-b.false)) ∙ sym (larger_not_inside c.args.a c.args.b (omega (arith, c.if-a-b.false)))
