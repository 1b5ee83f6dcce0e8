use Rattle.std.proofs.Common.{arith, rules, refl, ap, not}
use borrow.Author.Tests.{eq-eqb}
use Rattle.can_rules.specs.declared.Part.TheVariants.{Middle}
use Rattle.can.proofs.Answers.{its_place, usable, short_there, part_dropped, middle_done, middle_size}
use Rattle.can.proofs.parts.middle.Goals as goal

pub overflow_add-at : goal.overflow_add-at
overflow_add-at c = let short = short_there _ _ c.requires.1 c.place_of.ensures c.in_ok-place.ensures.ok_part _ c.at.ensures in omega arith

pub remove-requires : goal.remove-requires
remove-requires c = usable _ _ c.requires.1 c.place_of.ensures c.in_ok-place.ensures.ok_part

pub returns-then-at-gt256 : goal.returns-then-at-gt256
returns-then-at-gt256 c =
    let own = its_place _ _ c.requires.1 c.place_of.ensures c.in_ok-place.ensures.ok_part in
    let same = ap (λ g. g.length) c.at.ensures in (
      part_dropped c.args.state.now c.args.sender c.args.frame c.requires.0 (search rules) c.requires.1 _ own Middle (ap not (eq-eqb c.args.frame.length 8 c.if-frame-ne8.false)) refl refl
          8 (middle_size c.args.state.now c.args.sender c.args.frame c.requires.0 (search rules) c.if-frame-ne8.false) (omega arith) c.remove.new.self c.remove.ensures,
      λ n. absurd (n refl),
    )

pub grow-requires-clause-place_in_use : goal.grow-requires-clause-place_in_use
grow-requires-clause-place_in_use c = usable _ _ c.requires.1 c.place_of.ensures c.in_ok-place.ensures.ok_part

pub returns : goal.returns
returns c =
    let own = its_place _ _ c.requires.1 c.place_of.ensures c.in_ok-place.ensures.ok_part in
    let same = ap (λ g. g.length) c.at.ensures in
    (middle_done c.args.state.now c.args.sender c.args.frame c.requires.0 (search rules) c.requires.1 _ own c.if-frame-ne8.false c.grow.new.self (omega arith) c.grow.ensures, tt)
