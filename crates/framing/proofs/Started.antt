-- The list of aliases that a file starts with, and the text of a file.
use Prim.Native.Nat.{ℕ}
use mathlib.Core.Path.{◌≡◌, sym, ap, ◌∙◌}
use mathlib.Core.Bool.{Bool, true, false, not}
use mathlib.Core.List.{List}
use borrow.Author.Tests.{not-true, not-false}
use lib.ListN.{take}
use Rattle.basics.specs.Lists.{each}
use Rattle.text.specs.Text.{bad_file}
use Rattle.can_rules.specs.Aliases.{Aliases, listed}
use Rattle.framing.specs.Files.{pair_count, pair_alias, pair_node, aliases_in, good_file}
use Rattle.framing.specs.Lines.{step_lines, text_of}
use Rattle.framing.proofs.Good.{Good, good_file_lem}

-- A file that passes the test.
pub passed_file : (s : List ℕ) {t : Bool} → t ≡ good_file s → not t ≡ false → Good s
passed_file s {t} e h = good_file_lem s (sym e ∙ not-false t h)

-- The first places of the lists hold the file's pairs.
abbrev Loads : List ℕ → List ℕ → List ℕ → Type 0
Loads s aliases nodes = let n = pair_count s in (take n aliases ≡ each n (pair_alias s)) × (take n nodes ≡ each n (pair_node s))

-- The list that is lent.
abbrev lent : ℕ → List ℕ → List ℕ → Aliases
lent n aliases nodes = listed (take n aliases) (take n nodes)

lent_in : (s aliases nodes : List ℕ) → Loads s aliases nodes → lent (pair_count s) aliases nodes ≡ aliases_in s
lent_in s aliases nodes l i = listed (l.0 i) (l.1 i)

module _ (s : List ℕ) {t : Bool} (e : t ≡ good_file s) where
  pub text_bad : not t ≡ true → text_of s ≡ bad_file
  unfolding text_of
  text_bad h = rw (sym e ∙ not-true t h)

  pub text_good : (aliases nodes : List ℕ) → not t ≡ false → Loads s aliases nodes → text_of s ≡ step_lines (lent (pair_count s) aliases nodes) s
  unfolding text_of
  text_good aliases nodes h l = rw (sym e ∙ not-false t h) (ap (λ (a : Aliases). step_lines a s) (sym (lent_in s aliases nodes l)))
