use Prim.Native.Nat.{ℕ}
use mathlib.Core.Path.{◌≡◌, sym, ap, ◌∙◌}
use mathlib.Core.Bool.{◌&&◌}
use native.Mathlib.Omega.{arith}
use Rattle.basics.specs.Sets.{any_below, in_set}
use Rattle.gateway.specs.Indexing.{placed_at}
use Rattle.gateway.specs.Lent.{state_seen}
use Rattle.gateway.proofs.Sizing.{around_in, shifted_back}
use Rattle.gateway.proofs.Skips.{next_in, none_to_next, next_passes, not_the_next}
use Rattle.gateway.proofs.table.TableView.under.Goals as goal

pub returns-then-at-ge64 : goal.returns-then-at-ge64
returns-then-at-ge64 c =
    let a = c.args in
    let t = a.self.now in
    sym (none_to_next a.set c.loop-k.k (around_in t.head.count t.starts.now t.ports.now t.sizes.now a.port a.e) 64 c.if-at-ge64.true c.loop-k.invariant.1)

pub returns-then-find : goal.returns-then-find
returns-then-find c =
    let a = c.args in
    let t = a.self.now in
    let at = next_in a.set c.loop-k.k in
    let begins = ap (placed_at (state_seen t) a.port at) (shifted_back 64 a.e at (omega arith)) in
    sym (next_passes a.set c.loop-k.k (around_in t.head.count t.starts.now t.ports.now t.sizes.now a.port a.e) c.if-at-ge64.false (sym begins ∙ sym c.find.ensures ∙ c.if-find.true))

pub loop-k-preserved : goal.loop-k-preserved
loop-k-preserved c =
    let a = c.args in
    let t = a.self.now in
    let at = next_in a.set c.loop-k.k in
    let begins = ap (placed_at (state_seen t) a.port at) (shifted_back 64 a.e at (omega arith)) in
    (omega arith, not_the_next a.set c.loop-k.k (around_in t.head.count t.starts.now t.ports.now t.sizes.now a.port a.e) c.loop-k.invariant.1 (sym begins ∙ sym c.find.ensures ∙ c.if-find.false))

pub returns : goal.returns
returns c =
    let a = c.args in
    let t = a.self.now in
    let all : c.loop-k.k ≡ 64 = omega arith in
    sym c.loop-k.invariant.1 ∙ ap (λ (k : ℕ). any_below k (λ j. in_set a.set j && around_in t.head.count t.starts.now t.ports.now t.sizes.now a.port a.e j)) all
