-- The call that the file says, with its message, on the output's first bytes.
use Prim.Native.Nat.{ℕ, ◌≤◌}
use lib.ListN.{length, take}
use mathlib.Core.Path.{sym, ap, ◌∙◌}
use native.Mathlib.Omega.{arith}
use lib.Seq.{length-take-le}
use borrow.Author.Rules.{rules}
use Rattle.node.specs.Lent.{slots_of, board_of}
use Rattle.node.specs.Answers.{result_by}
use Rattle.rehearsal.specs.Files.{head_size}
use Rattle.rehearsal.proofs.Good.{good_called, size_head}
use Rattle.rehearsal.proofs.Outcomes.{call_left, left_first, viewed, message_at_lem, outcome_at_lem}
use Rattle.rehearsal.proofs.bench.Bench.call.Goals as goal

pub overflow_add-end : goal.overflow_add-end
overflow_add-end c = omega (arith, c.size.ensures, (good_called c.args.file.now c.args.at c.requires.2).whole)

pub call-call-requires : goal.call-call-requires
call-call-requires c = ((good_called c.args.file.now c.args.at c.requires.2).head, c.requires.3)

pub slice_bounds-perform-count : goal.slice_bounds-perform-count
slice_bounds-perform-count c = omega (arith, c.size.ensures, c.head_size.ensures, ap head_size c.requires.3, size_head c.args.file.now c.args.at)

pub slice_bounds-perform-start : goal.slice_bounds-perform-start
slice_bounds-perform-start c = omega (arith, c.size.ensures, c.head_size.ensures, ap head_size c.requires.3, size_head c.args.file.now c.args.at)

pub slice_bounds-perform-end : goal.slice_bounds-perform-end
slice_bounds-perform-end c = omega (arith, c.size.ensures, (good_called c.args.file.now c.args.at c.requires.2).whole)

pub slice_bounds-perform-end-4 : goal.slice_bounds-perform-end-4
slice_bounds-perform-end-4 c =
    let inside : c.self.inside.count ≤ length c.self.inside.statuses = search rules in
    sym (length-take-le _ _ inside)

pub slice_bounds-perform-end-5 : goal.slice_bounds-perform-end-5
slice_bounds-perform-end-5 c =
    let inside : c.self.inside.count ≤ length c.self.inside.marks = search rules in
    sym (length-take-le _ _ inside)

pub slice_bounds-perform-end-6 : goal.slice_bounds-perform-end-6
slice_bounds-perform-end-6 c =
    omega (arith, c.room-room.ensures, (good_called c.args.file.now c.args.at c.requires.2).room, c.requires.4)

pub slice_bounds-perform-end-7 : goal.slice_bounds-perform-end-7
slice_bounds-perform-end-7 c =
    sym (length-take-le c.room-room.result c.args.out.now (omega (arith, c.room-room.ensures, (good_called c.args.file.now c.args.at c.requires.2).room, c.requires.4)))

pub returns : goal.returns
returns c =
    let s = c.args.file.now in
    let at : ℕ = c.args.at in
    let good = good_called s at c.requires.2 in
    let room = c.room-room.ensures in
    let fits : c.room-room.result ≤ length c.args.out.now = omega (arith, room, good.room, c.requires.4) in
    let lent = length-take-le c.room-room.result c.args.out.now fits in
    let head = c.head_size.ensures ∙ sym (ap head_size c.requires.3) in
    let p = c.perform-answer in
    let b = c.self.inside in
    let statuses_in : b.count ≤ length b.statuses = search rules in
    let marks_in : b.count ≤ length b.marks = search rules in
    let o = outcome_at_lem _ s at c.call-call.ensures (message_at_lem s at head c.size.ensures) (lent ∙ room) in
    viewed s at c.self.view_is
    (λ i. board_of p.result.node (slots_of (take b.count b.roles) (take b.count b.events) (sym (left_first b.count b.statuses p.new.statuses p.auto.statuses statuses_in) i) (sym (left_first b.count b.marks p.new.marks p.auto.marks marks_in) i)))
    (call_left _ _ _ _ _ _ (p.ensures ∙ ap (result_by _) o) p.auto.out (omega (arith, lent, room, good.room)))
