-- The falls begin at 0; what the pass over the lines leaves is what the index is to follow.
use mathlib.Core.Path.{refl, sym, ◌∙◌, subst}
use Rattle.gateway.specs.State.{IndexLists, lists_of, index_lists_of}
use Rattle.gateway.specs.Answers.{goes_by}
use Rattle.gateway.specs.Indexing.{Follows}
use Rattle.gateway.specs.Lent.{state_in}
use Rattle.gateway.proofs.Falling.{zeros_level}
use Rattle.gateway.proofs.Following.{fewer, sized_kept, follows}
use Rattle.gateway.proofs.InBounds.{lines_sized}
use Rattle.gateway.proofs.Same.{index_same, same_gate, left_lines}
use Rattle.gateway.proofs.table.Table.remove.Goals as goal

pub take_out-requires-clause-level : goal.take_out-requires-clause-level
take_out-requires-clause-level c = zeros_level _ refl

pub leave_out-requires-clause-before_bound : goal.leave_out-requires-clause-before_bound
leave_out-requires-clause-before_bound c =
    let t = c.args.self.now in
    let u = c.take_out.new.self in
    (t.few, fewer (goes_by c.args.gone) t.head.count u.head.count t.few (lists_of (state_in t)) (lists_of (state_in u)) c.take_out.ensures.lines)

pub leave_out-requires-clause-sized : goal.leave_out-requires-clause-sized
leave_out-requires-clause-sized c =
    let t = c.args.self.now in
    let u = c.take_out.new.self in
    sized_kept (goes_by c.args.gone) t.head.count u.head.count t.few (lists_of (state_in t)) (lists_of (state_in u)) c.take_out.ensures.lines (lines_sized t.head (lists_of (state_in t)) c.requires.sound.in_bounds)

pub leave_out-requires-clause-follows : goal.leave_out-requires-clause-follows
leave_out-requires-clause-follows c =
    let t = c.args.self.now in
    let u = c.take_out.new.self in
    subst (λ (x : IndexLists). Follows t.head.count u.head.count u.starts.now u.ports.now u.sizes.now x.order x.sets c.take_out.new.falls) (index_same c.take_out.ensures.index)
    (follows (goes_by c.args.gone) t.head.count u.head.count t.few (lists_of (state_in t)) (lists_of (state_in u)) c.take_out.ensures.lines (index_lists_of (state_in t)) _ c.requires.sound.index_fits c.take_out.ensures.falls)

pub returns-clause-gate : goal.returns-clause-gate
returns-clause-gate c =
    let out = c.take_out.ensures in
    sym (same_gate c.leave_out.ensures.lines) ∙ left_lines (state_in c.args.self.now) (state_in c.take_out.new.self) _ out.same.port_count out.same.automatic out.marks out.lines
