-- Each kind has its case, and its bytes stand in the call's head.
use mathlib.Core.Path.{ap, ◌∙◌}
use Rattle.rehearsal.specs.Files.{call_at}
use Rattle.rehearsal.specs.Kinds.{number_of}
use Rattle.rehearsal.proofs.files.Kind.call.Goals as goal

pub returns-in-Initialise : goal.returns-in-Initialise
unfolding call_at
returns-in-Initialise c = rw (c.requires.1 ∙ ap number_of c.in-Initialise.is)

pub returns-in-Announce : goal.returns-in-Announce
unfolding call_at
returns-in-Announce c = rw (c.requires.1 ∙ ap number_of c.in-Announce.is)

pub returns-in-Produce : goal.returns-in-Produce
unfolding call_at
returns-in-Produce c = rw (c.requires.1 ∙ ap number_of c.in-Produce.is)

pub returns-in-SetStatus : goal.returns-in-SetStatus
unfolding call_at
returns-in-SetStatus c = rw (c.requires.1 ∙ ap number_of c.in-SetStatus.is)

pub returns-in-Receive : goal.returns-in-Receive
unfolding call_at
returns-in-Receive c = rw (c.requires.1 ∙ ap number_of c.in-Receive.is)
