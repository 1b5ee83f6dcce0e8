use borrow.Author.Rules.{rules}
use Prim.Native.Nat.{◌-◌, ◌<◌}
use mathlib.Core.Path.{refl, sym, ap, ◌∙◌}
use native.Mathlib.Nat.{le_refl}
use native.Mathlib.Omega.{arith}
use lib.ListN.{length-set}
use Rattle.basics.specs.Lists.{any}
use Rattle.gateway.specs.declared.state.Gateway.{Gateway}
use Rattle.gateway.specs.State.{lists_of, line_at, lines_in}
use Rattle.gateway.specs.Answers.{goes_by}
use Rattle.gateway.specs.Lent.{state_in}
use Rattle.gateway.proofs.Firsts.{none_at}
use Rattle.gateway.proofs.Falling.{none_fallen, gone_fallen, kept_fallen}
use Rattle.gateway.proofs.Going.{comparable_at}
use Rattle.gateway.proofs.Kept.{none_gone, passed_over, kept_here}
use Rattle.gateway.proofs.Same.{same_again, same_on, same_index, index_on}
use Rattle.gateway.proofs.table.Table.take_out.Goals as goal

pub loop-place-init : goal.loop-place-init
loop-place-init c =
    let a = c.args in
    let t = lists_of (state_in a.self.now) in
    let n = c.before_gone-first.result in
    let none = ap (λ (g : Gateway). any (goes_by a.gone) (lines_in n (lists_of g))) (sym c.view.ensures) ∙ c.before_gone-first.ensures.upper_bound.1 in
    record {
      same = same_again a.self.now;
      head = refl;
      index = same_index (state_in a.self.now);
      behind = le_refl n;
      kept = none_gone (goes_by a.gone) t n a.self.now.whole none;
      fallen = none_fallen (λ p. goes_by a.gone (line_at t p)) _ n c.requires.level (λ p l. none_at (goes_by a.gone) n (line_at t) p l none);
      len = search (rules, c.well_formed);
    }

pub goes-requires : goal.goes-requires
goes-requires c =
    let a = c.args in
    let t = lists_of (state_in a.self.now) in
    let i = c.loop-place.place in
    let there = c.line_at-l.ensures ∙ ap (λ (g : Gateway). line_at (lists_of g) i) c.view-in-loop-place.ensures ∙ c.loop-place.invariant.kept.rest i (le_refl i) in
    comparable_at a.gone a.self.now.head.count t i c.requires.comparable c.loop-place-test.true there

pub loop-place-preserved-then-goes : goal.loop-place-preserved-then-goes
loop-place-preserved-then-goes c =
    let a = c.args in
    let t = lists_of (state_in a.self.now) in
    let i = c.loop-place.place in
    let v = c.loop-place.invariant in
    let read = c.line_at-l.ensures ∙ ap (λ (g : Gateway). line_at (lists_of g) i) c.view-in-loop-place.ensures in
    let there = read ∙ v.kept.rest i (le_refl i) in
    let goes = sym c.goes.ensures ∙ c.if-goes.true in
    record {
      same = v.same;
      head = v.head;
      index = v.index;
      behind = omega (arith, v.behind);
      kept = passed_over (goes_by a.gone) t (lists_of (state_in c.loop-place.self)) i c.loop-place.j c.line_at-l.result v.kept read goes;
      fallen = gone_fallen (λ p. goes_by a.gone (line_at t p)) c.loop-place.falls i c.loop-place.j v.fallen (omega (arith, v.len, c.loop-place-test.true, a.self.now.few)) (sym (ap (goes_by a.gone) there) ∙ goes);
      len = length-set c.loop-place.falls i 256 ∙ v.len;
    }

pub loop-place-preserved : goal.loop-place-preserved
loop-place-preserved c =
    let a = c.args in
    let t = lists_of (state_in a.self.now) in
    let i = c.loop-place.place in
    let j = c.loop-place.j in
    let v = c.loop-place.invariant in
    let read = c.line_at-l.ensures ∙ ap (λ (g : Gateway). line_at (lists_of g) i) c.view-in-loop-place.ensures in
    let there = read ∙ v.kept.rest i (le_refl i) in
    let stays = sym c.goes.ensures ∙ c.if-goes.false in
    let room : i < 256 = omega (arith, c.loop-place-test.true, a.self.now.few) in
    record {
      same = same_on v.same c.put_line.ensures.same;
      head = v.head ∙ c.put_line.ensures.put.head;
      index = index_on v.index c.put_line.ensures.put.index;
      behind = omega (arith, v.behind);
      kept = kept_here (goes_by a.gone) t (lists_of (state_in c.loop-place.self)) i j c.line_at-l.result v.kept read _ stays v.behind room c.put_line.ensures.put.lines;
      fallen = kept_fallen (λ p. goes_by a.gone (line_at t p)) c.loop-place.falls i j (i - j) v.fallen (omega (arith, v.len, room)) (sym (ap (goes_by a.gone) there) ∙ stays) (omega (arith, v.behind));
      len = length-set c.loop-place.falls i (i - j) ∙ v.len;
    }
