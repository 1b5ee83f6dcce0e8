use mathlib.Core.Path.{ap, ◌∙◌}
use native.Mathlib.Omega.{arith}
use lib.Seq.{get_or-set_same, get_or-set_other}
use Rattle.gateway.specs.Indexing.{entry_in}
use Rattle.gateway.proofs.order.put_in.Goals as goal

pub returns : goal.returns
returns c =
    let a = c.args in
    let moved = c.copy_within.new.self in
    let copied = c.copy_within.ensures.by_index in
    record {
      front = λ i l. get_or-set_other moved a.place i a.count 0 (λ e. omega (arith, e, l)) ∙ copied.1 i 0 (omega (arith, l));
      here = get_or-set_same moved a.place a.count 0 (omega (arith, c.copy_within.ensures.len, c.requires.order_len, c.requires.place_bound, c.requires.count_bound));
      back = λ i next e l k.
          get_or-set_other moved a.place next a.count 0 (λ z. omega (arith, z, e, l))
          ∙ copied.0 next 0 (omega (arith, e, l)) (omega (arith, e, k))
          ∙ ap (entry_in a.order.now) (omega (arith, e, l));
    }
