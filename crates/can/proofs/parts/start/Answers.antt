use Rattle.std.proofs.Common.{arith, rules, refl, ap, ◌∙◌, sym, not}
use borrow.Author.Tests.{eq-eqb, le-leb}
use Rattle.basics.proofs.Lists.{without_nothing}
use Rattle.can_rules.specs.declared.Part.TheVariants.{Start}
use Rattle.can_rules.specs.Joining.{of_sender}
use Rattle.can.specs.States.{state_of}
use Rattle.can.proofs.Places.{few_senders, state_length}
use Rattle.can.proofs.Answers.{in_use, dropped_there, twenty, its_own_room, free_room, one_fewer, start_done}
use Rattle.can.proofs.parts.start.Goals as goal
use Rattle.can.proofs.parts.start.Goals.{in-Some, in-None+else-state-eq2}

pub remove-requires : goal.remove-requires
remove-requires c =
    let j = c.args.state.now in
    (in_use j c.args.sender c.requires.1 _ c.in-Some.ensures, few_senders j c.requires.1)

pub returns-then-state-eq2 : goal.returns-then-state-eq2
returns-then-state-eq2 c =
    let j = c.args.state.now in
    let size = state_length j in (
      twenty j c.args.sender c.args.frame Start c.requires.0 (ap not (eq-eqb c.args.frame.length 8 c.if-frame-ne8.false)) refl refl c.in-None.ensures (le-leb 2 _ (omega arith)),
      λ _. refl,
    )

pub begin-requires : goal.begin-requires
begin-requires c =
    let j = c.args.state.now in
    let few = few_senders j c.requires.1 in
    elim c.match-place_of.branch [
      | in-Some w ↦ one_fewer j c.args.sender c.match-place_of.state _ (in_use j c.args.sender c.requires.1 _ w.in-Some.ensures) few (ap state_of w.state-is ∙ w.remove.ensures)
      | in-None+else-state-eq2 w ↦ let same = ap (λ s. s.count) w.state-is in omega arith
    ]

pub returns : goal.returns
returns c =
    let j = c.args.state.now in
    let few = few_senders j c.requires.1 in
    let done = start_done j c.args.sender c.args.frame c.requires.0 (search rules) c.if-frame-ne8.false c.match-place_of.state c.begin.new.self _ in (
      elim c.match-place_of.branch [
        | in-Some w ↦ done (ap state_of w.state-is ∙ w.remove.ensures ∙ sym (dropped_there j c.args.sender c.requires.1 _ w.in-Some.ensures)) (its_own_room j c.args.sender _ w.in-Some.ensures) c.begin.ensures c.event_in.ensures
        | in-None+else-state-eq2 w ↦ done (ap state_of w.state-is ∙ sym (without_nothing (of_sender c.args.sender) (state_of j) w.in-None.ensures)) (free_room j c.args.sender few w.if-state-eq2.false) c.begin.ensures c.event_in.ensures
      ],
      tt,
    )
