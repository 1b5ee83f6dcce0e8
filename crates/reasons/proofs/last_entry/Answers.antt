-- The buffer is as long as the longest text.
use Rattle.std.proofs.Common.{refl, ap, ◌∙◌, rules}
use Rattle.text.specs.declared.Page.{Page}
use Rattle.text.proofs.Lengths.{filled_whole}
use Rattle.text.proofs.Parts.{wrote_at, wrote_text}
use Rattle.reasons.specs.Lines.{text_of, longest}
use Rattle.reasons.proofs.Longest.{text_length}
use Rattle.reasons.proofs.last_entry.Goals as goal

pub returns-clause-value : goal.returns-clause-value
returns-clause-value c =
    let file = c.args.file.now in
    let whole = filled_whole longest (text_of file) c.args.text.now (search rules) (text_length file) in
    ap (λ (p : Page). p.at) c.put_text.ensures ∙ wrote_at _ (text_of file) refl ∙ whole.0

pub returns-clause-text_after : goal.returns-clause-text_after
returns-clause-text_after c =
    let file = c.args.file.now in
    let whole = filled_whole longest (text_of file) c.args.text.now (search rules) (text_length file) in
    ap (λ (p : Page). p.text.now) c.put_text.ensures ∙ wrote_text _ (text_of file) refl ∙ whole.1
