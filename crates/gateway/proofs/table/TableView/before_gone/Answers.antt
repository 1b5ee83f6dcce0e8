use mathlib.Core.Path.{ap, ◌∙◌}
use native.Mathlib.Omega.{arith}
use Rattle.basics.specs.Lists.{any}
use Rattle.gateway.specs.State.{lists_of, line_at}
use Rattle.gateway.specs.Answers.{goes_by}
use Rattle.gateway.specs.Lent.{state_seen}
use Rattle.gateway.proofs.Firsts.{not_more, no_places}
use Rattle.gateway.proofs.Places.{line_tells}
use Rattle.gateway.proofs.Going.{comparable_at}
use Rattle.gateway.proofs.table.TableView.before_gone.Goals as goal

pub loop-i-init : goal.loop-i-init
loop-i-init c =
    let a = c.args in
    ap (any (goes_by a.gone)) (no_places (line_at (lists_of (state_seen a.self.now))))

pub goes-requires : goal.goes-requires
goes-requires c =
    let a = c.args in
    comparable_at a.gone a.self.now.head.count (lists_of (state_seen a.self.now)) c.loop-i.i c.requires (omega arith) c.line_at.ensures

pub loop-i-preserved : goal.loop-i-preserved
loop-i-preserved c =
    let a = c.args in
    let t = lists_of (state_seen a.self.now) in
    not_more (goes_by a.gone) c.loop-i.i (line_at t) (line_tells (goes_by a.gone) (line_at t c.loop-i.i) c.line_at.ensures c.goes.ensures c.if-goes.false) ∙ c.loop-i.invariant
