use Rattle.std.proofs.Common.{arith, rules, refl, ap, ◌∙◌}
use Rattle.can_rules.specs.declared.Part.TheVariants.{Last}
use Rattle.can_rules.specs.Frames.{bytes_in}
use Rattle.can.specs.States.{with_more}
use Rattle.can.proofs.Answers.{its_place, usable, short_there, right_length, part_dropped, last_done, last_size}
use Rattle.can.proofs.parts.last.Goals as goal

pub remove-requires : goal.remove-requires
remove-requires c = usable _ _ c.requires.1 c.place_of.ensures c.in_ok-place.ensures.ok_part

pub overflow_add-message : goal.overflow_add-message
overflow_add-message c = let short = short_there _ _ c.requires.1 c.place_of.ensures c.in_ok-place.ensures.ok_part _ c.at.ensures in omega arith

pub returns-then-message-size-gt256 : goal.returns-then-message-size-gt256
returns-then-message-size-gt256 c =
    let own = its_place _ _ c.requires.1 c.place_of.ensures c.in_ok-place.ensures.ok_part in
    let same = ap (λ g. g.length) c.at.ensures in (
      part_dropped c.args.state.now c.args.sender c.args.frame c.requires.0 (search rules) c.requires.1 _ own Last (right_length c.args.frame.length c.if-size-eq0.false c.if-size-gt8.false) refl refl
          c.args.frame.length (last_size c.args.state.now c.args.sender c.args.frame c.requires.0 (search rules) c.if-size-gt8.false) (omega arith) c.remove.new.self c.remove.ensures,
      λ n. absurd (n refl),
    )

pub returns : goal.returns
returns c =
    let own = its_place _ _ c.requires.1 c.place_of.ensures c.in_ok-place.ensures.ok_part in
    let same = ap (λ g. g.length) c.at.ensures in
    let size = last_size c.args.state.now c.args.sender c.args.frame c.requires.0 (search rules) c.if-size-gt8.false in (
      last_done c.args.state.now c.args.sender c.args.frame c.requires.0 (search rules) c.requires.1 _ own c.if-size-eq0.false c.if-size-gt8.false (omega arith)
          c.push.new.self c.remove.new.self (c.push.ensures.grown ∙ ap (λ g. with_more g (bytes_in c.args.frame)) c.at.ensures) c.remove.ensures,
      λ none. absurd (omega (arith, c.push.ensures.longer)),
    )
