-- The tests of every call, then the call itself.
use mathlib.Core.Path.{ap, ◌∙◌}
use Rattle.std.proofs.Common.{rules}
use Rattle.node_rules.specs.Boards.{Slots}
use Rattle.node.specs.declared.Answer.{Answer}
use Rattle.node.specs.Answers.{result}
use Rattle.node.specs.Boards.{slots_in}
use Rattle.node.specs.Lent.{slots_of, board_of}
use Rattle.node.proofs.Lending.{same_slots}
use Rattle.node.proofs.Limits.{checked}
use Rattle.node.proofs.Calling.{call_barred, call_passed}
use Rattle.node.proofs.perform.Goals as goal

pub returns-in-Err : goal.returns-in-Err
returns-in-Err c =
    let a = c.args in
    let slots = slots_of a.roles.now a.events.now a.statuses.now a.marks.now in
    ap (λ (x : Answer). result x slots a.out.now) c.in_numbers.ensures ∙ call_barred (board_of a.node slots) a.call a.bytes.now a.out.now c.in-Err.refusal c.in-Err.ensures

pub invariant_of-board : goal.invariant_of-board
invariant_of-board c = record { checked = checked _ c.in_default.ensures }

pub returns : goal.returns
returns c =
    let a = c.args in
    let board = board_of a.node (slots_of a.roles.now a.events.now a.statuses.now a.marks.now) in
    let same = c.perform-done.ensures.same in
    ap (λ (s : Slots). result c.in_numbers-2.result s c.perform-done.new.out) (same_slots c.perform-done.new.self same.roles same.events (search (rules, same.statuses)) (search (rules, same.marks)))
    ∙ ap (λ (x : Answer). result x (slots_in c.perform-done.new.self) c.perform-done.new.out) c.in_numbers-2.ensures
    ∙ c.perform-done.ensures.left ∙ call_passed board a.call a.bytes.now a.out.now c.in_default.ensures
