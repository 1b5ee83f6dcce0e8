-- The buffer takes a part of the text.
use Rattle.std.proofs.Common.{rules}
use Rattle.text.proofs.Parts.{part_put}
use Rattle.explanation.specs.Words.{text_of}
use Rattle.explanation.proofs.part.Goals as goal

pub returns : goal.returns
returns c =
    let both = let a = c.args in part_put a.skip (text_of a.file.now) a.text.now (search rules) (c.explain.ensures.value, c.explain.ensures.text_after) in
    record { value = both.0; text_after = both.1 }
