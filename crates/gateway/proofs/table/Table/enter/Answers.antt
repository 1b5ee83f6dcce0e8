use Prim.Native.Nat.{ℕ, ◌+◌, ◌*◌}
use mathlib.Core.Path.{◌≡◌, ap, ◌∙◌, subst}
use Rattle.index_rules.specs.Agreeing.{key}
use Rattle.gateway.specs.declared.state.Gateway.{Gateway}
use Rattle.gateway.specs.Indexing.{spots_of, entry_in, Split}
use Rattle.gateway.specs.Lent.{state_in, spot_number}
use Rattle.gateway.proofs.Entering.{entered}
use Rattle.gateway.proofs.table.Table.enter.Goals as goal

pub returns-clause-agrees : goal.returns-clause-agrees
returns-clause-agrees c =
    let g = state_in c.args.self.now in
    let n = g.head.count in
    let spot : spot_number c.spot_at-spot.result ≡ spots_of g n = ap spot_number c.spot_at-spot.ensures ∙ ap (λ (h : Gateway). spots_of h n) c.view.ensures in
    let split = subst (λ (h : Gateway). Split (λ i. key (spots_of h) (entry_in h.order i)) h.head.count (spot_number c.spot_at-spot.result * 256 + n) c.ahead-place.result) c.view-2.ensures c.ahead-place.ensures in
    entered c.requires.room c.requires.agrees (subst (λ (x : ℕ). Split (λ i. key (spots_of g) (entry_in g.order i)) n (x * 256 + n) c.ahead-place.result) spot split) c.put_in.ensures
