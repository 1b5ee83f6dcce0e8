-- Each reason has its words.
use Rattle.std.proofs.Common.{ap, ◌∙◌}
use Rattle.text.specs.declared.Page.{Page}
use Rattle.text.specs.Text.{ascii, wrote}
use Rattle.text.proofs.Laws.{wrote_next}
use Rattle.explanation.specs.Words.{event_text}
use Rattle.explanation.proofs.lines.put_reason.Goals as goal

pub returns-in-NothingHolds : goal.returns-in-NothingHolds
returns-in-NothingHolds c =
    let words = ascii " held back: nothing on that leg asks for " in
    rw c.in-NothingHolds.is (c.put_event-in-NothingHolds.ensures ∙ ap (λ (q : Page). wrote q (event_text c.args.event)) c.put-in-NothingHolds.ensures ∙ wrote_next c.args.page.now words (event_text c.args.event))
