use Prim.Native.Nat.{ℕ, ◌+◌, ◌*◌, ◌≤◌, ◌<◌}
use mathlib.Core.Path.{◌≡◌, sym, ap, ◌∙◌}
use mathlib.Core.Logic.{⊎_elim}
use native.Mathlib.Nat.{eq-or-lt_of_le}
use native.Mathlib.Omega.{arith}
use borrow.Author.Rules.{rules}
use borrow.Author.Tests.{ltb-true, ltb-false}
use lib.Dec.{ltb}
use lib.ListN.{take, length, get_or}
use Rattle.std.proofs.lemmas.List.{get_or-take, get_or_default, length-take-le}
use Rattle.std.proofs.lemmas.List.Sorted.{IsPartitionPoint-from_clause, IsPartitionedBy-ltb}
use Rattle.index_rules.specs.Agreeing.{key}
use Rattle.index_rules.proofs.Order.{further_on}
use Rattle.gateway.specs.Indexing.{spots_of, entry_in}
use Rattle.gateway.specs.Lent.{state_seen, spot_number}
use Rattle.gateway.proofs.table.TableView.ahead.Goals as goal

pub returns : goal.returns
returns c =
    let a = c.args in
    let t = a.self.now in
    let n = t.head.count in
    let order = t.order.now in
    let at = key (spots_of (state_seen t)) in
    let bound = spot_number a.spot * 256 + a.number in
    let first = take n order in
    let same : length first ≡ n = length-take-le n order (omega (arith, t.few, t.whole_index.0)) in
    let there : (i d : ℕ) → i < n → get_or first i d ≡ entry_in order i = λ i d l. get_or-take n order i d l ∙ get_or_default order i d 0 (omega (arith, l, t.few, t.whole_index.0)) in
    let rising : (i j d : ℕ) → i ≤ j → j < length first → at (get_or first i d) ≤ at (get_or first j d) = λ i j d l k.
    let b : j < n = omega (arith, same, k) in
    ⊎_elim (λ e. omega (arith, ap (λ (m : ℕ). at (get_or first m d)) e))
    (λ h. omega (arith, ap at (there i d (omega (arith, h, b))), ap at (there j d b), further_on c.requires i j h b))
    (eq-or-lt_of_le l) in
    let split = IsPartitionPoint-from_clause (λ p. ltb (at p) bound) first c.partition_point.result c.partition_point.ensures.partitioned (IsPartitionedBy-ltb at first bound rising) (λ x r f k. search rules) in
    record {
      within = omega (arith, c.partition_point.ensures.bound, same);
      under = λ i l. ltb-true (at (entry_in order i)) bound (sym (ap (λ (p : ℕ). ltb (at p) bound) (there i 0 (omega (arith, c.partition_point.ensures.bound, same, l)))) ∙ split.0 i 0 (omega arith) l);
      over = λ i l k. ltb-false (at (entry_in order i)) bound (sym (ap (λ (p : ℕ). ltb (at p) bound) (there i 0 k)) ∙ split.1 i 0 l (omega (arith, same, k)));
    }
