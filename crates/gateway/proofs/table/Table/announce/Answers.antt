-- Inside a line, holding some, or new.
use mathlib.Core.Path.{ap, ◌∙◌}
use Rattle.basics.specs.Lists.{any}
use Rattle.gateway.specs.declared.state.Gateway.{Gateway}
use Rattle.gateway.specs.declared.lines.Standing.TheVariants.{Covered, Holding, New}
use Rattle.gateway.specs.State.{lists_of, lines_of, no_block}
use Rattle.gateway.specs.Answers.{stands_as}
use Rattle.gateway.specs.Lent.{state_in}
use Rattle.gateway.proofs.InBounds.{blocks_good}
use Rattle.gateway.proofs.Stands.{standing_says}
use Rattle.gateway.proofs.Marks.{covered_line, holding_line, new_line_lem}
use Rattle.gateway.proofs.table.Table.announce.Goals as goal

pub looked_for-requires-clause-blocks : goal.looked_for-requires-clause-blocks
looked_for-requires-clause-blocks c =
    let t = c.args.self.now in
    ap (λ (g : Gateway). any no_block (lines_of g)) c.view.ensures ∙ blocks_good t.head (lists_of (state_in t)) c.requires.sound.in_bounds

pub replace-requires-clause-holds_some : goal.replace-requires-clause-holds_some
replace-requires-clause-holds_some c =
    let g = state_in c.args.self.now in
    let says = standing_says (lines_of g) c.args.l c.looked_for.result Holding (c.looked_for.ensures ∙ ap (λ (h : Gateway). stands_as (lines_of h) c.args.l) c.view.ensures) c.in-Holding.is in
    says.1 says.0

pub returns-in-Covered-clause-gate : goal.returns-in-Covered-clause-gate
returns-in-Covered-clause-gate c =
    let g = state_in c.args.self.now in
    let says = standing_says (lines_of g) c.args.l c.looked_for.result Covered (c.looked_for.ensures ∙ ap (λ (h : Gateway). stands_as (lines_of h) c.args.l) c.view.ensures) c.in-Covered.is in
    covered_line g.head (lists_of g) c.args.l says.0

pub returns-in-Holding-clause-gate : goal.returns-in-Holding-clause-gate
returns-in-Holding-clause-gate c =
    let g = state_in c.args.self.now in
    let says = standing_says (lines_of g) c.args.l c.looked_for.result Holding (c.looked_for.ensures ∙ ap (λ (h : Gateway). stands_as (lines_of h) c.args.l) c.view.ensures) c.in-Holding.is in
    c.replace.ensures.gate ∙ holding_line g.head (lists_of g) c.args.l says.0 (says.1 says.0)

pub returns-in-New-clause-gate : goal.returns-in-New-clause-gate
returns-in-New-clause-gate c =
    let g = state_in c.args.self.now in
    let says = standing_says (lines_of g) c.args.l c.looked_for.result New (c.looked_for.ensures ∙ ap (λ (h : Gateway). stands_as (lines_of h) c.args.l) c.view.ensures) c.in-New.is in
    c.store.ensures.gate ∙ new_line_lem g.head (lists_of g) c.args.l says.0 (says.1 says.0)
