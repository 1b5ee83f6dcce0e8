use Prim.Native.Nat.{◌+◌, ◌-◌, ◌*◌}
use mathlib.Core.Path.{sym, ap, ◌∙◌}
use mathlib.Core.Bool.{not}
use native.Mathlib.Omega.{arith}
use Rattle.basics.proofs.Below.{one_passes, next_fails}
use lib.Dec.{ltb}
use Rattle.index_rules.specs.Agreeing.{key, stray}
use Rattle.gateway.specs.Indexing.{spots_of, entry_in}
use Rattle.gateway.specs.declared.order.Spot.{Spot}
use Rattle.gateway.specs.Lent.{state_seen, spot_number}
use Rattle.gateway.proofs.Testing.{no_number, first_stays, next_strays}
use Rattle.gateway.proofs.table.TableView.strays.Goals as goal

pub returns-then-self-here : goal.returns-then-self-here
returns-then-self-here c =
    let t = c.args.self.now in
    let s = spots_of (state_seen t) in
    let n = t.head.count in
    let at = entry_in t.order.now in
    sym (one_passes n (stray s n at) c.loop-i.i (omega arith) (no_number s n at c.loop-i.i c.if-self-here.true))

pub loop-i-preserved-then-i-eq0 : goal.loop-i-preserved-then-i-eq0
loop-i-preserved-then-i-eq0 c =
    let t = c.args.self.now in
    let s = spots_of (state_seen t) in
    let n = t.head.count in
    let at = entry_in t.order.now in
    next_fails (stray s n at) c.loop-i.i c.loop-i.invariant (first_stays s n at c.loop-i.i c.if-i-eq0.true (omega arith))

pub returns-then-not-precedes : goal.returns-then-not-precedes
returns-then-not-precedes c =
    let t = c.args.self.now in
    let s = spots_of (state_seen t) in
    let n = t.head.count in
    let at = entry_in t.order.now in
    let strays = next_strays s n at c.loop-i.i (c.loop-i.i - 1) c.precedes.result (omega arith) (omega arith) (omega arith) (c.precedes.ensures ∙ ap (λ (x : Spot). ltb (key s (at (c.loop-i.i - 1))) (spot_number x * 256 + at c.loop-i.i)) c.spot_at.ensures) ∙ (ap not c.if-not-precedes.true) in
    sym (one_passes n (stray s n at) c.loop-i.i (omega arith) strays)

pub loop-i-preserved : goal.loop-i-preserved
loop-i-preserved c =
    let t = c.args.self.now in
    let s = spots_of (state_seen t) in
    let n = t.head.count in
    let at = entry_in t.order.now in
    let stays = next_strays s n at c.loop-i.i (c.loop-i.i - 1) c.precedes.result (omega arith) (omega arith) (omega arith) (c.precedes.ensures ∙ ap (λ (x : Spot). ltb (key s (at (c.loop-i.i - 1))) (spot_number x * 256 + at c.loop-i.i)) c.spot_at.ensures) ∙ (ap not c.if-not-precedes.false) in
    next_fails (stray s n at) c.loop-i.i c.loop-i.invariant stays
