use Rattle.std.proofs.Common.{◌≡◌, arith, length, ap, ◌∙◌, unwrap_or}
use Rattle.std.proofs.lemmas.Grind.{common_steps}
use Rattle.std.proofs.lemmas.Option.{gets}
use Rattle.can_rules.specs.Aliases.{place_in}
use Rattle.can_aliases.proofs.Lists.{place_found}
use Rattle.can_aliases.proofs.other_for.Goals as goal

pub returns : goal.returns
returns c =
    let place : c.unwrap_or-place.result ≡ place_in c.args.list.now c.args.x
    = c.unwrap_or-place.ensures ∙ ap (λ o. unwrap_or o (length c.args.list.now)) c.place_of.ensures ∙ place_found c.args.list.now c.args.x in
    grind (arith, common_steps, gets)
