use native.Mathlib.Omega.{arith}
use Rattle.basics.proofs.Each.{each_none, each_more}
use Rattle.framing.specs.Files.{pair_alias, pair_node}
use Rattle.framing.proofs.pairs.load.Goals as goal

pub loop-i-init : goal.loop-i-init
loop-i-init c =
    (omega arith, each_none (pair_alias c.args.file.now) c.args.aliases.now, each_none (pair_node c.args.file.now) c.args.nodes.now)

pub loop-i-preserved : goal.loop-i-preserved
loop-i-preserved c =
    let f = c.args.file.now in
    (omega arith, each_more 0 (pair_alias f) c.loop-i.i c.args.aliases.now c.loop-i.aliases c.loop-i.invariant.1 (omega arith) c.read_at.result c.read_at.ensures, each_more 0 (pair_node f) c.loop-i.i c.args.nodes.now c.loop-i.nodes c.loop-i.invariant.2 (omega arith) c.read_at-in-loop-i.result c.read_at-in-loop-i.ensures)
