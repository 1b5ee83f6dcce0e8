-- The index in the code's lists is that of the rules: what the code tests and keeps, and `index_of` of the lines.
use Prim.Native.Nat.{ℕ, ◌≤◌}
use mathlib.Core.Path.{◌≡◌, refl, sym, ap, ap₂, ◌∙◌}
use mathlib.Core.Bool.{Bool, true, false, not, ◌&&◌, ◌||◌}
use mathlib.Core.List.{List, []}
use Rattle.basics.specs.Lists.{each}
use Rattle.basics.proofs.Each.{each_length, each_at}
use Rattle.index_rules.specs.Index.{Index, spot_of, line_of, sorted, of_size, size_sets, index_of}
use Rattle.index_rules.specs.Agreeing.{disagrees, same_numbers}
use Rattle.index_rules.specs.Boxes.{strays}
use Rattle.index_rules.proofs.Passing.{any_each}
use Rattle.index_rules.proofs.Sorted.{agrees_sorted, sorted_agrees, disagrees_sorted, sorted_same}
use Rattle.gateway.specs.State.{Lists, IndexLists, line_at, lines_in, index_in}
use Rattle.gateway.specs.Indexing.{spot_in, entry_in, occurs_in, IndexFits}

module _ (n : ℕ) (small : n ≤ 256) (t : Lists) (x : IndexLists) where
  abbrev spots : ℕ → ℕ
  spots = spot_in t.starts t.ports t.sizes

  abbrev occurring : List ℕ
  occurring = size_sets (occurs_in n t.ports t.sizes)

  -- The lines' order and sets, from the lists.
  order_of_lines : (index_of (lines_in n t)).order ≡ sorted spots n
  unfolding index_of
  order_of_lines =
      ap (sorted (λ i. spot_of (line_of (lines_in n t) i))) (each_length n (line_at t))
      ∙ sorted_same (λ i. spot_of (line_of (lines_in n t) i)) spots n (λ p l. ap spot_of (each_at n (line_at t) (line_of [] 0) p l))

  sets_of_lines : (index_of (lines_in n t)).sets ≡ occurring
  unfolding index_of
  sets_of_lines = λ z. size_sets (λ p k. any_each (of_size p k) n (line_at t) z)

  index_of_lines : index_of (lines_in n t) ≡ record { order = sorted spots n; sets = occurring }
  index_of_lines = λ z. record { order = order_of_lines z; sets = sets_of_lines z }

  pub fits_right : IndexFits n t x → index_in n x ≡ index_of (lines_in n t)
  fits_right f = (λ z. record { order = agrees_sorted spots n small (entry_in x.order) f.agrees z; sets = f.occurring z }) ∙ sym index_of_lines

  pub right_fits : index_in n x ≡ index_of (lines_in n t) → IndexFits n t x
  right_fits e = record {
    agrees = sorted_agrees spots n small (entry_in x.order) (ap (λ (y : Index). y.order) e ∙ order_of_lines);
    occurring = ap (λ (y : Index). y.sets) e ∙ sets_of_lines;
  }

  -- What the code's two tests say.
  pub tests_tell : (disagrees spots n (entry_in x.order) || not (same_numbers x.sets occurring)) ≡ strays (index_in n x) (lines_in n t)
  unfolding strays
  tests_tell =
      ap (λ (s : Bool). s || not (same_numbers x.sets occurring)) (disagrees_sorted spots n small (entry_in x.order))
      ∙ either_not (same_numbers (each n (entry_in x.order)) (sorted spots n)) (same_numbers x.sets occurring)
      ∙ ap₂ (λ (os ss : List ℕ). not (same_numbers (each n (entry_in x.order)) os && same_numbers x.sets ss)) (sym order_of_lines) (sym sets_of_lines)
    where
      either_not : (s u : Bool) → (not s || not u) ≡ not (s && u)
      either_not true u = refl
      either_not false u = refl
