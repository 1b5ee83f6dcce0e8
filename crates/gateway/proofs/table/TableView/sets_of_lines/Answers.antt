use Rattle.basics.specs.Lists.{each}
use Rattle.index_rules.proofs.SizeSets.{nothing_occurs}
use Rattle.gateway.proofs.Occurring.{line_put}
use Rattle.gateway.proofs.table.TableView.sets_of_lines.Goals as goal

pub loop-i-init : goal.loop-i-init
unfolding each
loop-i-init c = nothing_occurs

pub loop-i-preserved : goal.loop-i-preserved
loop-i-preserved c =
    let t = c.args.self.now in
    line_put c.loop-i.i t.ports.now t.sizes.now c.loop-i.sets _ c.put_size.ensures c.loop-i.invariant
