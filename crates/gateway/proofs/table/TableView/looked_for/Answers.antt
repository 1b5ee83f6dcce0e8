use mathlib.Core.Path.{sym, ap, ◌∙◌}
use native.Mathlib.Omega.{arith}
use Rattle.basics.specs.Lists.{any}
use Rattle.gateway_rules.specs.declared.Line.{Line}
use Rattle.gateway.specs.State.{lists_of, line_at, lines_in}
use Rattle.gateway.specs.Lent.{state_seen}
use Rattle.gateway_rules.specs.Step.{within, held_by}
use Rattle.gateway.proofs.Firsts.{not_more, now_more, any_at, no_places}
use Rattle.gateway.proofs.Places.{block_at, line_tells}
use Rattle.gateway.proofs.Stands.{stands_covered, other_node}
use Rattle.gateway.proofs.table.TableView.looked_for.Goals as goal
use Rattle.gateway.proofs.table.TableView.looked_for.Goals.{then-within-2, else-within-2}

pub loop-i-init : goal.loop-i-init
loop-i-init c =
    let a = c.args in
    let t = lists_of (state_seen a.self.now) in
    (ap (any (within a.l)) (no_places (line_at t)), sym (ap (any (held_by a.l)) (no_places (line_at t))))

pub loop-i-preserved-then-x-l : goal.loop-i-preserved-then-x-l
loop-i-preserved-then-x-l c =
    let a = c.args in
    let t = lists_of (state_seen a.self.now) in
    let l = a.l in
    let apart = other_node l (line_at t c.loop-i.i) (λ e. c.if-x-l.true (ap (λ (x : Line). x.node) c.line_at-x.ensures ∙ e)) in
    (not_more (within l) c.loop-i.i (line_at t) apart.0 ∙ c.loop-i.invariant.0, c.loop-i.invariant.1 ∙ sym (not_more (held_by l) c.loop-i.i (line_at t) apart.1))

pub within-requires : goal.within-requires
within-requires c =
    let t = c.args.self.now in
    (c.requires.block_value, block_at t.head.count (lists_of (state_seen t)) c.loop-i.i c.requires.blocks (omega arith) c.line_at-x.ensures)

pub returns-then-within : goal.returns-then-within
returns-then-within c =
    let a = c.args in
    let t = lists_of (state_seen a.self.now) in
    let l = a.l in
    let n = a.self.now.head.count in
    stands_covered (lines_in n t) l (any_at (within l) n (line_at t) c.loop-i.i (omega arith) (line_tells (within l) (line_at t c.loop-i.i) c.line_at-x.ensures c.within.ensures c.if-within.true))

pub within-requires-in-loop-i : goal.within-requires-in-loop-i
within-requires-in-loop-i c =
    let t = c.args.self.now in
    (block_at t.head.count (lists_of (state_seen t)) c.loop-i.i c.requires.blocks (omega arith) c.line_at-x.ensures, c.requires.block_value)

pub loop-i-preserved : goal.loop-i-preserved
loop-i-preserved c =
    let a = c.args in
    let t = lists_of (state_seen a.self.now) in
    let l = a.l in
    let outside = line_tells (within l) (line_at t c.loop-i.i) c.line_at-x.ensures c.within.ensures c.if-within.false in
    let none = not_more (within l) c.loop-i.i (line_at t) outside ∙ c.loop-i.invariant.0 in
    elim c.if-within-2.branch [
      | then-within-2 w ↦ (none, w.holding-is ∙ sym (now_more (held_by l) c.loop-i.i (line_at t) (line_tells (held_by l) (line_at t c.loop-i.i) c.line_at-x.ensures c.within-in-loop-i.ensures w.if-within-2.true)))
      | else-within-2 w ↦ (none, w.holding-is ∙ c.loop-i.invariant.1 ∙ sym (not_more (held_by l) c.loop-i.i (line_at t) (line_tells (held_by l) (line_at t c.loop-i.i) c.line_at-x.ensures c.within-in-loop-i.ensures w.if-within-2.false)))
    ]
