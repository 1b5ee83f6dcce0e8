-- The number in the order, and the size in its set.
use Prim.Native.Nat.{ℕ, ◌+◌}
use mathlib.Core.Path.{sym, ap, ◌∙◌, subst}
use Rattle.index_rules.specs.Index.{size_sets}
use Rattle.index_rules.specs.Agreeing.{Agrees}
use Rattle.gateway.specs.declared.state.Head.{Head}
use Rattle.gateway.specs.Indexing.{spots_of, entry_in, occurs_in}
use Rattle.gateway.specs.Lent.{state_in}
use Rattle.gateway.proofs.Occurring.{line_put}
use Rattle.gateway.proofs.Same.{same_spots}
use Rattle.gateway.proofs.table.Table.take_in.Goals as goal

pub returns-clause-index_fits : goal.returns-clause-index_fits
returns-clause-index_fits c =
    let before = c.args.self.now in
    let after = c.enter.new.self in
    let same = c.enter.ensures.rest in
    let at = entry_in after.order.now in
    let spots = subst (λ (s : ℕ → ℕ). Agrees s (before.head.count + 1) at) (same_spots same.lines) c.enter.ensures.agrees in
    record {
      agrees = subst (λ (n : ℕ). Agrees (spots_of (state_in after)) (n + 1) at) (ap (λ (h : Head). h.count) same.lines.head) spots;
      occurring = line_put after.head.count after.ports.now after.sizes.now after.sets.now _ c.put_size.ensures
          (sym same.sets ∙ c.requires.index_fits.occurring ∙ (λ i. size_sets (occurs_in (same.lines.head i).count (same.lines.lines i).ports (same.lines.lines i).sizes)));
    }
