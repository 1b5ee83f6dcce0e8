-- The buffer is longer than any text.
use borrow.Author.Rules.{rules}
use Rattle.replay.proofs.Longest.{text_whole}
use Rattle.replay.proofs.whole.Goals as goal

pub returns : goal.returns
returns c =
    let both = text_whole c.args.file.now c.args.text.now (search rules) (c.replay.ensures.value, c.replay.ensures.text_after) in
    record { value = both.0; text_after = both.1 }
