-- The kind is that of the MTI, and the event and the destination are the message's own.
use mathlib.Core.Path.{ap, ◌∙◌}
use Rattle.message.specs.declared.Meaning.{Meaning}
use Rattle.message.specs.Saying.{saying, said_by}
use Rattle.message.proofs.said.said_by.Goals as goal

pub returns : goal.returns
unfolding said_by
returns c = c.saying.ensures ∙ ap (λ (x : Meaning). saying x.kind c.args.message.event c.args.message.destination) c.meaning_of-meaning.ensures
