-- The sizes below 64, then the whole space.
use mathlib.Core.Path.{sym, ◌∙◌}
use native.Mathlib.Omega.{arith}
use Rattle.gateway.specs.State.{lists_of}
use Rattle.gateway.specs.Lent.{state_seen}
use Rattle.gateway.proofs.InBounds.{lines_blocks}
use Rattle.gateway.proofs.Sizing.{found_below, whole_last}
use Rattle.gateway.proofs.table.TableView.held_at.Goals as goal

pub returns-then-under : goal.returns-then-under
returns-then-under c =
    let a = c.args in
    let t = a.self.now in
    c.if-under.true ∙ found_below t.head.count t.starts.now t.ports.now t.sizes.now a.port a.e (omega arith) c.requires.sound.events (lines_blocks t.head (lists_of (state_seen t)) c.requires.sound.in_bounds) t.order.now t.sets.now c.requires.sound.index_fits (omega arith) (sym c.under.ensures ∙ c.if-under.true)

pub returns-else-under : goal.returns-else-under
returns-else-under c =
    let a = c.args in
    let t = a.self.now in
    whole_last t.head.count t.starts.now t.ports.now t.sizes.now a.port a.e (omega arith) c.requires.sound.events (lines_blocks t.head (lists_of (state_seen t)) c.requires.sound.in_bounds) t.order.now t.sets.now c.requires.sound.index_fits (omega arith) (sym c.under.ensures ∙ c.if-under.false)
