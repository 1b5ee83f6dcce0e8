-- What a part of the code is asked for.
use Rattle.std.specs.Prelude.{ℕ, Bool, ◌||◌, List}
use Rattle.basics.specs.Lists.{any}
use Rattle.message.specs.Messages.{bad_node}
use Rattle.can_rules.specs.Aliases.{Aliases, listed, bad_alias, repeats}
use Rattle.can_aliases.specs.declared.AliasList.{AliasList}

-- The list as the rules have it.
abbrev pub list_in : AliasList → Aliases
list_in l = listed l.aliases.now l.nodes.now

-- All that is bad of a list but its lengths.
abbrev pub any_bad : List ℕ → List ℕ → Bool
any_bad aliases nodes = any bad_node nodes || (any bad_alias aliases || (repeats aliases || repeats nodes))
