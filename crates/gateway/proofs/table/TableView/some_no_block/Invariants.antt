use mathlib.Core.Path.{◌≡◌}
use mathlib.Core.Bool.{false}
use Rattle.basics.specs.Lists.{any}
use Rattle.gateway.specs.State.{first_blocks, not_block}
use Rattle.gateway.proofs.table.TableView.some_no_block.Given as goal

-- The blocks before place i are blocks.
abbrev pub invariant-loop-i : goal.invariant-loop-i
invariant-loop-i l = any not_block (first_blocks l.i l.self.starts.now l.self.sizes.now) ≡ false
