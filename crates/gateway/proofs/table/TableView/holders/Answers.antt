use mathlib.Core.Path.{◌≡◌, sym, ap, ◌∙◌}
use native.Mathlib.Omega.{arith}
use Prim.Native.Nat.{ℕ}
use mathlib.Core.Bool.{Bool}
use Rattle.gateway.specs.Indexing.{held_in}
use Rattle.gateway.specs.Lent.{state_seen}
use Rattle.gateway.proofs.PortByPort.{asked_below, none_asked, all_asked, it_holds, it_does_not}
use Rattle.gateway.proofs.table.TableView.holders.Goals as goal
use Rattle.gateway.proofs.table.TableView.holders.Goals.{then-held_at, else-held_at}

pub loop-port-init : goal.loop-port-init
loop-port-init c =
    let a = c.args in
    none_asked a.self.now.head.marks (λ q. held_in (state_seen a.self.now) q a.e) (omega arith)

pub loop-port-preserved : goal.loop-port-preserved
loop-port-preserved c =
    let a = c.args in
    let holds : ℕ → Bool = λ q. held_in (state_seen a.self.now) q a.e in
    elim c.if-held_at.branch [
      | then-held_at w ↦ w.wanted-is ∙ w.with_port-wanted.ensures ∙ it_holds a.self.now.head.marks holds c.loop-port.port c.loop-port.wanted c.loop-port.invariant (sym c.held_at.ensures ∙ w.if-held_at.true)
      | else-held_at w ↦ w.wanted-is ∙ it_does_not a.self.now.head.marks holds c.loop-port.port c.loop-port.wanted c.loop-port.invariant (sym c.held_at.ensures ∙ w.if-held_at.false)
    ]

pub returns : goal.returns
returns c =
    let a = c.args in
    let holds : ℕ → Bool = λ q. held_in (state_seen a.self.now) q a.e in
    let all : c.loop-port.port ≡ 8 = omega arith in
    c.loop-port.invariant ∙ ap (asked_below a.self.now.head.marks holds) all ∙ all_asked a.self.now.head.marks holds
