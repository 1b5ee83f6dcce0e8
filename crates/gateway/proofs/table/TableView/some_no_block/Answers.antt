use mathlib.Core.Path.{sym, ap, ◌∙◌}
use mathlib.Core.Bool.{not}
use native.Mathlib.Omega.{arith}
use Rattle.basics.specs.Lists.{any}
use Rattle.gateway.specs.State.{not_block}
use Rattle.gateway.specs.Indexing.{block_in}
use Rattle.gateway.proofs.Firsts.{no_places, not_more, any_at}
use Rattle.gateway.proofs.table.TableView.some_no_block.Goals as goal

pub loop-i-init : goal.loop-i-init
loop-i-init c =
    let t = c.args.self.now in
    ap (any not_block) (no_places (block_in t.starts.now t.sizes.now))

pub returns-then-not-is_block : goal.returns-then-not-is_block
returns-then-not-is_block c =
    let t = c.args.self.now in
    sym (any_at not_block t.head.count (block_in t.starts.now t.sizes.now) c.loop-i.i (omega arith) (ap not (sym c.is_block.ensures) ∙ ap not c.if-not-is_block.true))

pub loop-i-preserved : goal.loop-i-preserved
loop-i-preserved c =
    let t = c.args.self.now in
    not_more not_block c.loop-i.i (block_in t.starts.now t.sizes.now) (ap not (sym c.is_block.ensures) ∙ ap not c.if-not-is_block.false) ∙ c.loop-i.invariant
