-- A report is told of each leg; what is refused has its own line, or none where it is no report.
use Rattle.std.proofs.Common.{[], sym, ap, ◌∙◌, rules}
use denote.Enum.Bare.{same_true, same_false}
use Rattle.basics.specs.contracts.Refusal.{the_type}
use Rattle.basics.specs.declared.Refusal.TheVariants.{NoReport}
use Rattle.basics.proofs.Numbers.{refusal_once}
use Rattle.basics.specs.Refusals.{refusal_number}
use Rattle.text.specs.declared.Page.{Page}
use Rattle.text.specs.Text.{wrote}
use Rattle.text.proofs.Laws.{wrote_next}
use Rattle.gateway.specs.State.{gate_of}
use Rattle.explanation.specs.Words.{refused_line}
use Rattle.explanation.proofs.Asked.{report_lines, first_refuses}
use Rattle.explanation.proofs.legs.put.Goals as goal

pub returns-in_default-clause-lines : goal.returns-in_default-clause-lines
returns-in_default-clause-lines c =
    let a = c.args in
    c.in_default.ensures.1 ∙ ap (wrote a.page.now) (report_lines (gate_of a.gateway.now) a.entry.port a.entry.body.now a.entry.index c.in_default.ensures.0)

pub returns-then-eq-clause-lines : goal.returns-then-eq-clause-lines
returns-then-eq-clause-lines c =
    let a = c.args in
    let f = first_refuses a.gateway.now a.entry.port a.entry.body.now c.requires.right.1 a.entry.index c.in-Err.ensures.0 in
    c.in-Err.ensures.1 ∙ ap (wrote a.page.now) (f.other (ap refusal_number (same_true the_type (search rules) c.in-Err.refusal NoReport (sym c.if-eq.ensures))))

pub returns-then-eq-clause-accepted : goal.returns-then-eq-clause-accepted
returns-then-eq-clause-accepted c =
    let a = c.args in
    sym (first_refuses a.gateway.now a.entry.port a.entry.body.now c.requires.right.1 a.entry.index c.in-Err.ensures.0).no_report_lem

pub returns-clause-lines : goal.returns-clause-lines
returns-clause-lines c =
    let a = c.args in
    let line = refused_line a.entry.index (refusal_number c.in-Err.refusal) in
    let f = first_refuses a.gateway.now a.entry.port a.entry.body.now c.requires.right.1 a.entry.index c.in-Err.ensures.0 in
    c.put_refusal.ensures ∙ ap (λ (q : Page). wrote q line) c.in-Err.ensures.1 ∙ wrote_next a.page.now [] line ∙ ap (wrote a.page.now) (f.line (λ e. same_false the_type c.in-Err.refusal NoReport (sym c.if-eq.ensures) (refusal_once c.in-Err.refusal NoReport e)))

pub returns-clause-accepted : goal.returns-clause-accepted
returns-clause-accepted c =
    let a = c.args in
    sym (first_refuses a.gateway.now a.entry.port a.entry.body.now c.requires.right.1 a.entry.index c.in-Err.ensures.0).no_report_lem
