use mathlib.Core.Path.{refl}
use native.Mathlib.Omega.{arith}
use Rattle.replay.proofs.Walk.{few, in_table, small, one_more, entry_body, entry_within, entry_next}
use Rattle.replay.proofs.entries.EntriesIterator.next.Goals as goal

pub overflow_mul-entry : goal.overflow_mul-entry
overflow_mul-entry c = omega (arith, few c.args.self.now)

pub overflow_add-entry : goal.overflow_add-entry
overflow_add-entry c = omega (arith, few c.args.self.now)

pub overflow_add-entry-2 : goal.overflow_add-entry-2
overflow_add-entry-2 c = omega (arith, few c.args.self.now)

pub overflow_add-end : goal.overflow_add-end
overflow_add-end c =
    let e = c.args.self.now in
    omega (arith, small e, entry_within e (one_more e c.read_at.ensures c.if-self-read_at.false) c.read_at-2.ensures)

pub invariant_of-self : goal.invariant_of-self
invariant_of-self c =
    let e = c.args.self.now in
    let more = one_more e c.read_at.ensures c.if-self-read_at.false in record { good = e.good; within = omega (arith, more); placed = entry_next e more c.read_at-2.ensures }

pub bounds-file-entry : goal.bounds-file-entry
bounds-file-entry c = let e = c.args.self.now in omega (arith, in_table e (one_more e c.read_at.ensures c.if-self-read_at.false))

pub slice_bounds-result-end : goal.slice_bounds-result-end
slice_bounds-result-end c = let e = c.args.self.now in entry_within e (one_more e c.read_at.ensures c.if-self-read_at.false) c.read_at-2.ensures

pub returns-clause-steps : goal.returns-clause-steps
returns-clause-steps c =
    let e = c.args.self.now in
    let more = one_more e c.read_at.ensures c.if-self-read_at.false in
    (more, refl, refl, entry_body e more c.read_at-2.ensures, refl, refl)
