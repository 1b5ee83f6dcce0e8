use Rattle.std.proofs.Common.{rules}
use Rattle.can.proofs.Answers.{whole_done}
use Rattle.can.proofs.parts.whole.Goals as goal

pub returns : goal.returns
returns c = λ j. (
  whole_done j c.args.sender c.args.frame c.requires (search rules) c.if-frame-ne8.false c.empty.result _ c.empty.ensures.result_value c.event_in.ensures,
  λ _. c.empty.ensures.payload_value,
)
