-- A block of 64 bits or more has all ones below it.
use Rattle.explanation.proofs.Events.{last_wide}
use Rattle.explanation.proofs.lines.last_of.Goals as goal

pub returns-else-k-lt64 : goal.returns-else-k-lt64
returns-else-k-lt64 c = last_wide c.args.block c.if-k-lt64.false
