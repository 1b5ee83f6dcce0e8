-- The first line that does not stand before the spot stands there, or none does.
use mathlib.Core.Path.{ap, ◌∙◌}
use mathlib.Core.Bool.{◌&&◌}
use lib.Dec.{eqb}
use native.Mathlib.Omega.{arith}
use borrow.Author.Rules.{rules}
use lib.ListN.{get_or}
use Rattle.gateway.specs.Indexing.{entry_in}
use Rattle.gateway.proofs.Keys.{Fields}
use Rattle.gateway.specs.declared.order.Spot.{Spot}
use Rattle.gateway.proofs.Finding.{past_all, landed, regrouped}
use Rattle.gateway.proofs.table.TableView.find.Goals as goal

pub returns-then-self-place : goal.returns-then-self-place
returns-then-self-place c =
    let t = c.args.self.now in
    let s = c.args.spot in
    past_all t.head.count t.starts.now t.ports.now t.sizes.now t.order.now s.port s.k s.start t.few c.requires.index_fits.agrees c.ahead-place.ensures c.if-self-place.true

pub returns : goal.returns
returns c =
    let t = c.args.self.now in
    let s = c.args.spot in
    let e = c.requires.index_fits.agrees in
    let i = entry_in t.order.now c.ahead-place.result in
    let asked : Fields s.k s.start 0 = search (rules, c.well_formed) in
    let read : Fields c.spot_at.result.k c.spot_at.result.start 0 = search (rules, c.spot_at.type_inv) in
    let there : Fields (get_or t.sizes.now i 0) (get_or t.starts.now i 0) i
    = record { size = omega (arith, read.size, ap (λ (x : Spot). x.k) c.spot_at.ensures); event = c.requires.events i; place = omega (arith, e.below c.ahead-place.result c.if-self-place.false, t.few) } in
    c.eq.ensures
    ∙ regrouped (eqb c.spot_at.result.port s.port) (eqb c.spot_at.result.k s.k) (eqb c.spot_at.result.start s.start)
    ∙ ap (λ (x : Spot). (eqb x.port s.port && eqb x.k s.k) && eqb x.start s.start) c.spot_at.ensures
    ∙ landed t.head.count t.starts.now t.ports.now t.sizes.now t.order.now s.port s.k s.start t.few e c.ahead-place.ensures c.if-self-place.false asked there
