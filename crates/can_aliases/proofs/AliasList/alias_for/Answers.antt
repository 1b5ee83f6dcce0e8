use Rattle.std.proofs.Common.{ap, ◌∙◌, unwrap_or}
use Rattle.std.proofs.lemmas.Option.{unwrap_or-slice_get}
use Rattle.can_rules.specs.Aliases.{alias_for, no_alias}
use Rattle.can_aliases.proofs.AliasList.alias_for.Goals as goal

pub returns-clause-value : goal.returns-clause-value
unfolding alias_for
returns-clause-value c = ap (λ o. unwrap_or o no_alias) c.other_for.ensures ∙ unwrap_or-slice_get c.args.self.now.aliases.now _ no_alias
