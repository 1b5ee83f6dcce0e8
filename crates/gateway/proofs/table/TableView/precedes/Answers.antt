-- Field by field: the first that differs decides.
use borrow.Author.Rules.{rules}
use lib.ListN.{get_or}
use Rattle.gateway.proofs.Keys.{by_port, by_size_lem, by_event_lem, by_number}
use Rattle.gateway.proofs.table.TableView.precedes.Goals as goal

pub returns-then-x-spot : goal.returns-then-x-spot
returns-then-x-spot c =
    let a = c.args in
    by_port (get_or a.self.now.ports.now a.p 0) a.spot.port (search rules) (search (rules, c.well_formed)) c.if-x-spot.true

pub returns-then-y-spot : goal.returns-then-y-spot
returns-then-y-spot c =
    let a = c.args in
    by_size_lem (get_or a.self.now.ports.now a.p 0) a.spot.port (search rules) (search (rules, c.well_formed)) c.if-x-spot.false c.if-y-spot.true

pub returns-then-z-spot : goal.returns-then-z-spot
returns-then-z-spot c =
    let a = c.args in
    by_event_lem (get_or a.self.now.ports.now a.p 0) a.spot.port (search rules) (search (rules, c.well_formed)) c.if-x-spot.false c.if-y-spot.false c.if-z-spot.true

pub returns : goal.returns
returns c =
    let a = c.args in
    by_number (get_or a.self.now.ports.now a.p 0) a.spot.port (search rules) (search (rules, c.well_formed)) c.if-x-spot.false c.if-y-spot.false c.if-z-spot.false
