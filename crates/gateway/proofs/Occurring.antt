-- The sizes that occur, with one line more.
use Prim.Native.Nat.{ℕ, ◌+◌}
use mathlib.Core.Path.{◌≡◌, sym, ap, ◌∙◌}
use mathlib.Core.Bool.{◌&&◌, ◌||◌, or_comm}
use mathlib.Core.List.{List}
use native.Mathlib.Numerals.{add-one}
use lib.Dec.{eqb}
use lib.ListN.{get_or}
use Rattle.index_rules.specs.Index.{size_sets}
use Rattle.gateway.specs.Indexing.{occurs_in, SizePut}
use Rattle.index_rules.proofs.SizeSets.{sizes_same}

module _ (n : ℕ) (ports sizes : List ℕ) where
  pub occurs_more : (p k : ℕ) → occurs_in (n + 1) ports sizes p k ≡ (occurs_in n ports sizes p k || (eqb (get_or ports n 0) p && eqb (get_or sizes n 0) k))
  occurs_more p k =
      ap (λ (m : ℕ). occurs_in m ports sizes p k) (add-one n) ∙ or_comm (eqb (get_or ports n 0) p && eqb (get_or sizes n 0) k) (occurs_in n ports sizes p k)

  -- The sets have that line's size put in.
  pub line_put : (before after : List ℕ) → SizePut (get_or ports n 0) (get_or sizes n 0) before after
      → before ≡ size_sets (occurs_in n ports sizes)
      → after ≡ size_sets (occurs_in (n + 1) ports sizes)
  line_put before after s e =
      s.put (occurs_in n ports sizes) e
      ∙ sym (sizes_same (occurs_in (n + 1) ports sizes) (λ p k. occurs_in n ports sizes p k || (eqb (get_or ports n 0) p && eqb (get_or sizes n 0) k)) occurs_more)
