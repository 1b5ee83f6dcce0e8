use mathlib.Core.Path.{sym, ◌∙◌}
use Rattle.gateway.specs.Lent.{state_in}
use Rattle.gateway.proofs.Same.{put_adds, put_fits}
use Rattle.gateway.proofs.table.Table.add.Goals as goal

pub take_in-requires-clause-index_fits : goal.take_in-requires-clause-index_fits
take_in-requires-clause-index_fits c = put_fits c.put_line.ensures.put c.requires.index_fits

pub returns-clause-gate : goal.returns-clause-gate
returns-clause-gate c =
    let put = c.put_line.ensures.put in
    let taken = c.take_in.ensures.lines in
    put_adds (state_in c.args.self.now) (state_in c.take_in.new.self) c.args.l c.args.self.now.whole c.requires.room (put.head ∙ taken.head) (sym taken.lines ∙ put.lines)
