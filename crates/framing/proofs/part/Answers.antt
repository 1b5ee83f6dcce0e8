-- The buffer takes a part of the text.
use Rattle.framing.specs.Lines.{text_of}
use Rattle.text.proofs.Parts.{part_put}
use borrow.Author.Rules.{rules}
use Rattle.framing.proofs.part.Goals as goal

pub returns : goal.returns
returns c =
    let both = part_put c.args.skip (text_of c.args.file.now) c.args.text.now (search rules) (c.frame_text.ensures.value, c.frame_text.ensures.text_after) in
    record { value = both.0; text_after = both.1 }
