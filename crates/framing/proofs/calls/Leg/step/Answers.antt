use mathlib.Core.Path.{ap, ◌∙◌}
use native.Mathlib.Omega.{arith}
use Rattle.framing.specs.Kinds.{number_of}
use Rattle.framing.proofs.Good.{step_least, other_split}
use Rattle.framing.proofs.Showing.{step_join, step_split}
use Rattle.framing.proofs.calls.Leg.step.Goals as goal

pub join-requires : goal.join-requires
join-requires c = (step_least c.args.file.now c.args.at c.requires.2, c.requires.1, c.requires.4)

pub split-requires : goal.split-requires
split-requires c =
    let two = c.requires.3 ∙ ap number_of c.in-Split.is in
    (c.requires.0, c.requires.1, other_split c.args.file.now c.args.at c.requires.2 (λ one. omega (arith, one, two)), c.requires.4)

pub returns-in-Join-clause-left : goal.returns-in-Join-clause-left
returns-in-Join-clause-left c =
    step_join _ _ c.args.file.now c.args.at (c.requires.3 ∙ ap number_of c.in-Join.is) c.join.ensures.left

pub returns-in-Split-clause-left : goal.returns-in-Split-clause-left
returns-in-Split-clause-left c =
    step_split _ _ c.args.file.now c.args.at (c.requires.3 ∙ ap number_of c.in-Split.is) c.split.ensures
