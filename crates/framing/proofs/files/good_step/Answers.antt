-- The tests in the order of the code.
use Prim.Native.Nat.{ℕ, ◌+◌}
use mathlib.Core.Bool.{Bool, true, false}
use mathlib.Core.List.{List}
use mathlib.Core.Path.{◌≡◌, sym, ap, ◌∙◌}
use borrow.Author.Tests.{lt-leb}
use lib.ListN.{length, get_or}
use Rattle.std.specs.Bool.{then_some}
use Rattle.framing.specs.declared.files.Kind.{Kind}
use Rattle.framing.specs.Files.{good_step}
use Rattle.framing.specs.Kinds.{number_of, IsGood}
use Rattle.framing.proofs.Good.{good_join, good_when_split, good_other}
use Rattle.framing.proofs.files.good_step.Goals as goal

pub returns-then-file-at : goal.returns-then-file-at
unfolding good_step
returns-then-file-at c = rw (lt-leb (c.args.at + 14) (length c.args.file.now) c.if-file-at.true)

pub returns-in_err-kind : goal.returns-in_err-kind
returns-in_err-kind c =
    let other = c.in_err-kind.ensures in
    rw c.from_residual.ensures (good_other c.args.file.now c.args.at c.if-file-at.false other.0 other.1)

pub returns-in-Join : goal.returns-in-Join
returns-in-Join c =
    let one = c.in_ok-kind.ensures in
    (good_join c.args.file.now c.args.at c.if-file-at.false (one ∙ ap number_of c.in-Join.is), one)

-- A split is good by its own tests.
by_split : (t : Bool) (k : Kind) (s : List ℕ) (at : ℕ) → good_step s at ≡ t → get_or s at 0 ≡ number_of k → IsGood (then_some t k) s at
by_split true k s at good number = (good, number)
by_split false k s at good number = good

pub returns-in-Split : goal.returns-in-Split
returns-in-Split c =
    let two = c.in_ok-kind.ensures in
    let good = good_when_split c.args.file.now c.args.at c.if-file-at.false (two ∙ ap number_of c.in-Split.is) in
    rw c.then_some.ensures (by_split _ _ c.args.file.now c.args.at (good ∙ sym c.good_split.ensures) two)
