-- A report has told its lines.
use Rattle.explanation.proofs.legs.put_end.Goals as goal

pub returns-else-not-reported : goal.returns-else-not-reported
returns-else-not-reported c = rw c.if-not-reported.false c.requires
