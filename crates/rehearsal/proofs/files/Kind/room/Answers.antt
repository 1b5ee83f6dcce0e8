-- To set a status is lent no output.
use mathlib.Core.Path.{ap, ◌∙◌}
use borrow.Author.Tests.{ne_eqb}
use Rattle.rehearsal.specs.Files.{room_at}
use Rattle.rehearsal.specs.Kinds.{number_of}
use Rattle.rehearsal.proofs.Good.{only_status}
use Rattle.rehearsal.proofs.files.Kind.room.Goals as goal

pub returns-in-SetStatus : goal.returns-in-SetStatus
unfolding room_at
returns-in-SetStatus c = rw (c.requires.2 ∙ ap number_of c.in-SetStatus.is)

pub returns-in_default : goal.returns-in_default
unfolding room_at
returns-in_default c =
    let other = only_status c.args.self c.in_default.not-SetStatus in
    rw (c.requires.2, ne_eqb (number_of c.args.self) 4 other) c.read_at.ensures
