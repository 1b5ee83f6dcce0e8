-- A port is refused only where no port before it was told its reason.
use Rattle.std.proofs.Common.{[], ◌++◌, refl, sym, ap, ◌∙◌, arith}
use Rattle.basics.specs.Refusals.{refusal_number}
use Rattle.text.specs.declared.Page.{Page}
use Rattle.text.specs.Text.{wrote, decimal, new_line}
use Rattle.text.proofs.Laws.{wrote_next}
use Rattle.gateway_rules.specs.Reasons.{why_told}
use Rattle.gateway.specs.State.{gate_of}
use Rattle.reasons.proofs.Asked.{lines_next, lines_none, answer_lines, answer_refused, asked_reason, asked_refused, refused_first}
use Rattle.reasons.proofs.lines.put.Goals as goal

pub loop-asked-init : goal.loop-asked-init
loop-asked-init c =
    let a = c.args in record {
      lines = c.requires.within ∙ ap (wrote a.page.now) (sym (lines_none (gate_of a.gateway.now) a.entry.port a.entry.body.now 0 refl));
      reasons = λ h. absurd (omega (arith, h));
    }

pub returns-in-Err : goal.returns-in-Err
returns-in-Err c =
    let a = c.args in
    let p = a.page.now in
    let g = gate_of a.gateway.now in
    let asked = c.loop-asked.asked in
    let line = decimal (refusal_number c.in-Err.refusal) ++ new_line in
    let first = refused_first a.gateway.now a.entry.port asked a.entry.body.now c.requires.right c.loop-asked-test.true c.why.result c.why.ensures c.in-Err.is c.loop-asked.invariant.reasons in
    let refused = asked_refused a.gateway.now a.entry.port asked a.entry.body.now c.requires.right c.loop-asked-test.true c.why.result c.why.ensures c.in-Err.is ∙ ap (λ r. why_told g a.entry.port r a.entry.body.now) first in
    let none = c.loop-asked.invariant.lines ∙ ap (wrote p) (lines_none g a.entry.port a.entry.body.now asked first) in
    c.put_refusal.ensures ∙ ap (λ (q : Page). wrote q line) none ∙ wrote_next p [] line ∙ ap (wrote p) (answer_refused g a.entry.port a.entry.body.now c.in-Err.refusal refused)

pub loop-asked-preserved : goal.loop-asked-preserved
loop-asked-preserved c =
    let a = c.args in
    let asked = c.loop-asked.asked in
    let told = asked_reason a.gateway.now a.entry.port asked a.entry.body.now c.requires.right c.loop-asked-test.true c.why.result c.why.ensures c.in-Ok.is in record {
      lines = lines_next (gate_of a.gateway.now) a.entry.port a.entry.body.now a.page.now asked c.loop-asked.invariant.lines told.1 c.put_line.ensures;
      reasons = λ h. told.0;
    }

pub returns : goal.returns
returns c =
    let a = c.args in
    let asked = c.loop-asked.asked in
    let all = c.loop-asked.invariant in
    all.lines ∙ ap (wrote a.page.now) (answer_lines (gate_of a.gateway.now) a.entry.port a.entry.body.now (all.reasons (omega arith)) asked (omega arith))
