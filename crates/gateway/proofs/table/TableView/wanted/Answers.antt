-- Everyone, or those that the lookup finds.
use Rattle.gateway.specs.State.{lists_of}
use Rattle.gateway.specs.Lent.{state_seen}
use Rattle.gateway.proofs.InBounds.{head_good, automatic_block}
use Rattle.gateway.proofs.Wanted.{wanted_by_lem, holders_wanted}
use Rattle.std.specs.Prelude.{None}
use Rattle.gateway.proofs.table.TableView.wanted.Goals as goal

pub looked_up-requires : goal.looked_up-requires
looked_up-requires c =
    let t = c.args.self.now in
    automatic_block t.head (head_good t.head (lists_of (state_seen t)) c.requires.in_bounds)

pub returns-in-None : goal.returns-in-None
returns-in-None c =
    let t = c.args.self.now in
    wanted_by_lem t.head (lists_of (state_seen t)) c.args.saying None c.looked_up.ensures c.in-None.is

pub returns-in-Some : goal.returns-in-Some
returns-in-Some c =
    let t = c.args.self.now in
    holders_wanted t.head (lists_of (state_seen t)) c.args.saying c.in-Some.e c.looked_up.ensures c.in-Some.is c.holders.ensures
