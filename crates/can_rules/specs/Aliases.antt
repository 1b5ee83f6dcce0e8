-- The list of aliases (document 02, W3).
use Rattle.std.specs.Prelude.{ℕ, suc, Bool, false, cond, not, ◌||◌, List, [], ◌∷◌, eqb, ltb, length, get_or}
use Rattle.basics.specs.Lists.{any}
use Rattle.message.specs.Messages.{bad_node}

-- Node i of the list stands behind alias i.
pub record Aliases : Type 0 where
  pub aliases : List ℕ
  pub nodes : List ℕ

abbrev pub listed : List ℕ → List ℕ → Aliases
listed aliases nodes = record { aliases = aliases; nodes = nodes }

-- Whether a number stands twice in a list.
abbrev pub repeats : List ℕ → Bool
repeats [] = false
repeats (x ∷ xs) = any (λ y. eqb y x) xs || repeats xs

-- The most pairs, and the highest alias.
abbrev pub most_pairs : ℕ
most_pairs = 128

abbrev pub highest_alias : ℕ
highest_alias = 0xFFF

abbrev pub bad_alias : ℕ → Bool
bad_alias a = ltb highest_alias a

-- Lists of unequal length, more than 128, a bad Node ID, an alias above FFF, an alias or Node ID listed twice.
unfoldable pub bad_aliases : Aliases → Bool
bad_aliases l =
    not (eqb (length l.aliases) (length l.nodes))
    || (ltb most_pairs (length l.nodes)
    || (any bad_node l.nodes || (any bad_alias l.aliases || (repeats l.aliases || repeats l.nodes))))

-- ---- who stands for whom

-- The place of a number in a list; the list's length where it is not there.
unfoldable pub place_in : List ℕ → ℕ → ℕ
place_in [] x = 0
place_in (y ∷ ys) x = cond (eqb y x) 0 (suc (place_in ys x))

-- No Node ID is 0, and no alias is 1000 hex.
abbrev pub nobody : ℕ
nobody = 0

abbrev pub no_alias : ℕ
no_alias = suc highest_alias

-- The Node ID for an alias, and the alias for a Node ID.
unfoldable pub node_for : Aliases → ℕ → ℕ
node_for l a = get_or l.nodes (place_in l.aliases a) nobody

unfoldable pub alias_for : Aliases → ℕ → ℕ
alias_for l n = get_or l.aliases (place_in l.nodes n) no_alias
