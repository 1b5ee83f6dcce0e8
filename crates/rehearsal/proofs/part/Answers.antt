-- The buffer takes a part of the text.
use borrow.Author.Rules.{rules}
use Rattle.rehearsal.specs.Lines.{text_of}
use Rattle.text.proofs.Parts.{part_put}
use Rattle.rehearsal.proofs.part.Goals as goal

pub returns : goal.returns
returns c =
    let both = part_put c.args.skip (text_of c.args.file.now) c.args.text.now (search rules) (c.rehearse.ensures.value, c.rehearse.ensures.text_after) in
    record { value = both.0; text_after = both.1 }
