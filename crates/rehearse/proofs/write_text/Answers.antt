-- Each part is the text's from its byte on, and no text is longer than the longest.
use native.Mathlib.Omega.{arith}
use borrow.Author.Rules.{rules}
use Rattle.rehearsal.specs.Lines.{text_of}
use Rattle.rehearsal.proofs.Longest.{text_length}
use Rattle.rehearse.proofs.write_text.Goals as goal

pub returns : goal.returns
returns g c = c.write_parts.ensures (text_of c.args.file.now) (omega (arith, text_length c.args.file.now)) (λ skip before end after small room did. search rules)
