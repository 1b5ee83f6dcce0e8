use mathlib.Core.Path.{refl, ◌∙◌}
use mathlib.Core.Bool.{not, ◌&&◌}
use native.Mathlib.Omega.{arith}
use lib.Dec.{eqb, ltb}
use Rattle.basics.proofs.Bits.{next_bit}
use Rattle.basics.specs.Sets.{set_of, in_set}
use Rattle.basics.proofs.Sets.{set_below}
use Rattle.gateway.proofs.port_sets.others.Goals as goal

pub loop-p-init : goal.loop-p-init
unfolding set_of
loop-p-init c = refl

pub put-sent-requires-clause-set_bound : goal.put-sent-requires-clause-set_bound
put-sent-requires-clause-set_bound c =
    let a = c.args in
    omega (arith, c.loop-p.invariant, set_below c.loop-p.p (λ q. ltb q a.ports && (not (eqb q a.port) && in_set a.set q)))

pub loop-p-preserved : goal.loop-p-preserved
loop-p-preserved c =
    let a = c.args in
    c.put-sent.ensures ∙ next_bit (λ q. ltb q a.ports && (not (eqb q a.port) && in_set a.set q)) c.loop-p.p c.loop-p.sent c.goes.result c.loop-p.invariant c.goes.ensures
