use mathlib.Core.Path.{sym, ap, ◌∙◌}
use Prim.Native.Nat.{ℕ}
use Rattle.numbers.specs.Numbers.{number_at, at_most_eight}
use Rattle.numbers.proofs.Laws.{number_past}
use Rattle.numbers.proofs.read_at.Goals as goal

-- Two, six and eight bytes that are there are read without a loop.
pub returns-then-bytes-at : goal.returns-then-bytes-at
returns-then-bytes-at c = number_past c.args.bytes.now c.args.at (at_most_eight c.args.width) c.if-bytes-at.true

pub returns-then-width-eq2 : goal.returns-then-width-eq2
returns-then-width-eq2 c =
    c.two.ensures.value ∙ ap (λ (w : ℕ). number_at c.args.bytes.now c.args.at (at_most_eight w)) (sym c.if-width-eq2.true)

pub returns-then-width-eq6 : goal.returns-then-width-eq6
returns-then-width-eq6 c =
    c.six.ensures.value ∙ ap (λ (w : ℕ). number_at c.args.bytes.now c.args.at (at_most_eight w)) (sym c.if-width-eq6.true)

pub returns-then-width-eq8 : goal.returns-then-width-eq8
returns-then-width-eq8 c =
    c.eight.ensures ∙ ap (λ (w : ℕ). number_at c.args.bytes.now c.args.at (at_most_eight w)) (sym c.if-width-eq8.true)
