-- A leg is refused only where no leg before it was told its reason.
use Rattle.std.proofs.Common.{◌≡◌, ◌<◌, ap, ◌∙◌, arith}
use Rattle.std.proofs.lemmas.Result.{err_from_is_err_and}
use Rattle.gateway.specs.State.{gate_of}
use Rattle.gateway_rules.specs.Reasons.{why_told}
use Rattle.explanation.specs.Words.{event_in}
use Rattle.explanation.proofs.Asked.{asked_event, asked_reason, asked_report, asked_told, asked_refused}
use Rattle.explanation.proofs.Running.{legs_none, legs_not, legs_next}
use Rattle.explanation.proofs.legs.put_legs.Goals as goal

pub loop-leg-init : goal.loop-leg-init
loop-leg-init c =
    let a = c.args in record {
      lines = legs_none a.entry.index (gate_of a.gateway.now) a.entry.port (event_in a.entry.body.now) a.page.now c.requires.within;
      accepted = λ h. absurd (omega (arith, h));
    }

pub returns-in_err-reason : goal.returns-in_err-reason
returns-in_err-reason c =
    let a = c.args in
    let g = a.gateway.now in
    let leg = c.loop-leg.leg in
    let later : 0 < leg → ⊥ = λ h. asked_refused g a.entry.port leg a.entry.body.now c.requires.right c.loop-leg-test.true c.why.result c.why.ensures c.in_err-reason.was (c.loop-leg.invariant.accepted h) in
    let first : leg ≡ 0 = omega (arith, later) in
    let told = asked_told g a.entry.port leg a.entry.body.now c.requires.right c.loop-leg-test.true c.why.result c.why.ensures c.in_err-reason.was ∙ ap (λ p. why_told (gate_of g) a.entry.port p a.entry.body.now) first in
    let none = legs_not a.entry.index (gate_of g) a.entry.port (event_in a.entry.body.now) a.page.now leg first c.loop-leg.invariant.lines in
    let p = err_from_is_err_and c.from_residual.result c.from_residual.ensures.1 in rw (p.1, p.2) (told, none)

pub loop-leg-preserved : goal.loop-leg-preserved
loop-leg-preserved c =
    let a = c.args in
    let g = a.gateway.now in
    let leg = c.loop-leg.leg in
    let there = c.loop-leg-test.true in
    let event = asked_event g a.entry.port leg a.entry.body.now c.requires.right there c.why.result c.why.ensures c.in_ok-reason.was c.read_at-event.ensures in
    let reason = asked_reason g a.entry.port leg a.entry.body.now c.requires.right there c.why.result c.why.ensures c.in_ok-reason.was in record {
      lines = legs_next a.entry.index (gate_of g) a.entry.port (event_in a.entry.body.now) a.page.now leg c.loop-leg.invariant.lines event reason c.put_leg.ensures;
      accepted = λ h. asked_report g a.entry.port leg a.entry.body.now c.requires.right there c.why.result c.why.ensures c.in_ok-reason.was;
    }
