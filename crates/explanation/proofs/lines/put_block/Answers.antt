-- One event, or the first and the last.
use Rattle.std.proofs.Common.{◌≡◌, ◌++◌, ap, ◌∙◌, ne_eqb}
use Rattle.range.specs.Range.{last}
use Rattle.text.specs.declared.Page.{Page}
use Rattle.text.specs.Text.{ascii, wrote}
use Rattle.text.proofs.Laws.{wrote_next}
use Rattle.explanation.specs.Words.{event_text, block_text}
use Rattle.explanation.proofs.Events.{event_low}
use Rattle.explanation.proofs.lines.put_block.Goals as goal

pub returns-then-block-ne0 : goal.returns-then-block-ne0
unfolding block_text
returns-then-block-ne0 c =
    let b = c.args.block in
    let p = c.args.page.now in
    let shown : event_text c.last_of.result ≡ event_text (last b) = ap event_text c.last_of.ensures ∙ event_low (last b) in
    let end = ascii " to " ++ event_text c.last_of.result in
    let tail = c.put_event-then-block-ne0.ensures ∙ ap (λ (q : Page). wrote q (event_text c.last_of.result)) c.put.ensures ∙ wrote_next c.put_event.new.page (ascii " to ") (event_text c.last_of.result) in
    let whole = tail ∙ ap (λ (q : Page). wrote q end) c.put_event.ensures ∙ wrote_next p (event_text b.start) end in
    rw (ne_eqb b.k 0 c.if-block-ne0.true) (rw shown at whole)
