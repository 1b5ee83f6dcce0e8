use mathlib.Core.Path.{◌∙◌, ap₂}
use Prim.Native.Nat.{ℕ, ◌+◌, ◌*◌}
use Rattle.numbers.proofs.Pairs.{number_two}
use Rattle.numbers.proofs.fixed.two.Goals as goal

pub returns-clause-value : goal.returns-clause-value
returns-clause-value c = ap₂ (λ (x y : ℕ). x + y * 256) c.from.ensures c.from-2.ensures ∙ number_two c.args.bytes.now c.args.at c.requires
