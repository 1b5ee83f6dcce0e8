use Rattle.std.proofs.Common.{arith, refl}
use Rattle.can_rules.specs.declared.Part.TheVariants.{Whole, Start, Middle, Last}
use Rattle.can.proofs.Answers.{is_part, is_other_lem}
use Rattle.can.proofs.parts.part_in.Goals as goal

pub returns-in-103860 : goal.returns-in-103860
returns-in-103860 c = is_part c.args.header Whole c.in-103860.is refl

pub returns-in-106262 : goal.returns-in-106262
returns-in-106262 c = is_part c.args.header Start c.in-106262.is refl

pub returns-in-106261 : goal.returns-in-106261
returns-in-106261 c = is_part c.args.header Middle c.in-106261.is refl

pub returns-in-106260 : goal.returns-in-106260
returns-in-106260 c = is_part c.args.header Last c.in-106260.is refl

pub returns-in_default : goal.returns-in_default
returns-in_default c = is_other_lem c.args.header (λ e. omega arith) (λ e. omega arith) (λ e. omega arith) (λ e. omega arith)
