use Rattle.std.proofs.Common.{ap, ◌∙◌, unwrap_or}
use Rattle.std.proofs.lemmas.Option.{unwrap_or-slice_get}
use Rattle.can_rules.specs.Aliases.{node_for, nobody}
use Rattle.can_aliases.proofs.AliasList.node_for.Goals as goal

pub returns-clause-value : goal.returns-clause-value
unfolding node_for
returns-clause-value c = ap (λ o. unwrap_or o nobody) c.other_for.ensures ∙ unwrap_or-slice_get c.args.self.now.nodes.now _ nobody
