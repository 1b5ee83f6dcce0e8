use Prim.Native.Nat.{ℕ, ◌^◌}
use mathlib.Core.Path.{sym, ap, ◌∙◌}
use mathlib.Core.Bool.{Bool, ◌||◌}
use mathlib.Core.List.{List}
use native.Mathlib.Omega.{arith}
use lib.Dec.{eqb, leb}
use Rattle.std.proofs.lemmas.List.{take_all}
use Rattle.basics.specs.Lists.{any}
use Rattle.gateway.proofs.Columns.{any_either}
use Rattle.gateway.proofs.bounds.some_bad_node.Goals as goal

pub returns-then-zero : goal.returns-then-zero
returns-then-zero c =
    let nodes = c.args.nodes.now in
    let zero = ap (λ (xs : List ℕ). any (λ n. eqb n 0) xs) (sym (take_all c.loop-node.node-index nodes (omega arith))) ∙ sym c.loop-node.invariant.1 ∙ c.if-zero.true in
    c.if-zero.true ∙ sym (any_either (λ n. eqb n 0) (leb (2 ^ 48)) nodes ∙ ap (λ (y : Bool). y || any (leb (2 ^ 48)) nodes) zero)

pub returns-else-zero : goal.returns-else-zero
returns-else-zero c =
    let nodes = c.args.nodes.now in
    let all = take_all c.loop-node.node-index nodes (omega arith) in
    let zero = ap (λ (xs : List ℕ). any (λ n. eqb n 0) xs) (sym all) ∙ sym c.loop-node.invariant.1 ∙ c.if-zero.false in
    c.loop-node.invariant.2
    ∙ ap (λ (xs : List ℕ). any (leb (2 ^ 48)) xs) all
    ∙ sym (any_either (λ n. eqb n 0) (leb (2 ^ 48)) nodes ∙ ap (λ (y : Bool). y || any (leb (2 ^ 48)) nodes) zero)
