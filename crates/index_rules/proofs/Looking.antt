-- "The lookup by size finds a line at a port exactly when some line at that port holds the event", and so decides as reading the table from the top does.
use Prim.Native.Nat.{ℕ, ◌≤◌, ◌<◌}
use mathlib.Core.Path.{◌≡◌, refl, sym, ap, ap₂, ◌∙◌}
use mathlib.Core.Logic.{⊎_elim}
use mathlib.Core.Bool.{Bool, true, false, not, ◌&&◌, ◌||◌, or-true, false≢true, true≢false}
use mathlib.Core.List.{List}
use native.Mathlib.Omega.{arith}
use borrow.Author.Tests.{eqb-true, eq-eqb}
use lib.Dec.{eqb, leb}
use lib.ListN.{length}
use Rattle.range.specs.Range.{is_block, in_block}
use Rattle.range.proofs.Laws.{block_parts, in_block_above}
use Rattle.basics.specs.Lists.{any, Among, each}
use Rattle.basics.proofs.Bools.{same_truth, both, neither}
use Rattle.basics.proofs.Among.{among_any, any_found, any_passed}
use Rattle.basics.proofs.Below.{one_passes}
use Rattle.message.specs.Messages.{bad_node}
use Rattle.gateway_rules.specs.declared.Line.{Line}
use Rattle.gateway_rules.specs.State.{Gate, bad_beside_lines, bad_line, out_of_bounds}
use Rattle.gateway_rules.specs.Step.{line_holds, wants}
use Rattle.gateway_rules.proofs.Holding.{true_or_false}
use Rattle.index_rules.specs.Index.{of_size, index_of}
use Rattle.index_rules.specs.Looking.{has_size, beginning, placed_at, found_at, by_size, wants_by_size}
use Rattle.index_rules.proofs.Passing.{any_each}
use Rattle.index_rules.proofs.Sizes.{has_size_lem}
use Rattle.index_rules.proofs.Once.{any_named}

-- ---- one line

-- The block of a size that holds an event is the one that begins where that size's does.
placed_holds : (p e k : ℕ) (l : Line) → is_block l.block ≡ true → placed_at p k (beginning e k) l ≡ true → line_holds p e l ≡ true
placed_holds p e k l v t =
    let h = both (of_size p k l) (eqb l.block.start (beginning e k)) t in
    let g = both (eqb l.port p) (eqb l.block.k k) h.0 in
    let begins : beginning e l.block.k ≡ l.block.start = ap (beginning e) (eqb-true l.block.k k g.1) ∙ sym (eqb-true l.block.start (beginning e k) h.1) in
    rw (g.0, in_block_above l.block e v) (eq-eqb (beginning e l.block.k) l.block.start begins)

holds_placed : (p e : ℕ) (l : Line) → is_block l.block ≡ true → line_holds p e l ≡ true → placed_at p l.block.k (beginning e l.block.k) l ≡ true
holds_placed p e l v t =
    let h = both (eqb l.port p) (in_block l.block e) t in
    let begins = eqb-true (beginning e l.block.k) l.block.start (sym (in_block_above l.block e v) ∙ h.1) in
    rw (h.0, eq-eqb l.block.k l.block.k refl) (eq-eqb l.block.start (beginning e l.block.k) (sym begins))

-- ---- all lines

-- A size occurs at a port, and its block that holds the event is found there.
abbrev met : List Line → ℕ → ℕ → ℕ → Bool
met lines p e k = has_size (index_of lines) p k && found_at (index_of lines) lines p e k

module _ (lines : List Line) (p e : ℕ) (there : p < 8) (blocks : any (λ l. not (is_block l.block)) lines ≡ false) where
  a_block : (l : Line) → Among l lines → is_block l.block ≡ true
  a_block l h =
      ⊎_elim (λ t. t)
      (λ t. absurd (false≢true (sym blocks ∙ among_any (λ x. not (is_block x.block)) lines l h (ap not t))))
      (true_or_false (is_block l.block))

  -- What is met in any number of sizes is a line that holds the event ..
  met_holds : (n : ℕ) → any (met lines p e) (each n (λ k. k)) ≡ true → any (line_holds p e) lines ≡ true
  met_holds n t =
      let f = any_found (met lines p e) (each n (λ k. k)) t in
      let k = f.one in
      let found = (both (has_size (index_of lines) p k) (found_at (index_of lines) lines p e k) f.passes).1 in
      let l = any_found (placed_at p k (beginning e k)) lines (sym (any_named (placed_at p k (beginning e k)) lines) ∙ found) in
      among_any (line_holds p e) lines l.one l.there (placed_holds p e k l.one (a_block l.one l.there) l.passes)

  -- .. and a line that holds it is met in 65 of them.
  holds_met : (n : ℕ) → 65 ≤ n → any (line_holds p e) lines ≡ true → any (met lines p e) (each n (λ k. k)) ≡ true
  holds_met n all t =
      let l = any_found (line_holds p e) lines t in
      let k = l.one.block.k in
      let block = a_block l.one l.there in
      let small = (block_parts l.one.block block).0 in
      let placed = holds_placed p e l.one block l.passes in
      let sized = (both (of_size p k l.one) (eqb l.one.block.start (beginning e k)) placed).0 in
      let size = has_size_lem lines p k there small ∙ among_any (of_size p k) lines l.one l.there sized in
      let found = any_named (placed_at p k (beginning e k)) lines ∙ among_any (placed_at p k (beginning e k)) lines l.one l.there placed in
      any_each (met lines p e) n (λ k. k) ∙ one_passes n (met lines p e) k (omega (arith, small, all)) (ap₂ (λ (s t : Bool). s && t) size found)

-- "The lookup by size finds a line at a port exactly when some line at that port holds the event", where each line has a block.
pub by_size_lem : (lines : List Line) (p e : ℕ) → p < 8 → any (λ l. not (is_block l.block)) lines ≡ false → by_size (index_of lines) lines p e ≡ any (line_holds p e) lines
unfolding by_size
by_size_lem lines p e there blocks = same_truth _ _ (met_holds lines p e there blocks _) (holds_met lines p e there blocks _ (omega arith))

-- ---- the decision

-- Whoever passes the one test passes the other: where none passes the other, none passes the one.
none_passed : {A : Type 0} (test other : A → Bool) (xs : List A) → ((x : A) → test x ≡ true → other x ≡ true) → any other xs ≡ false → any test xs ≡ false
none_passed test other xs h n = ⊎_elim (λ t. absurd (true≢false (sym (any_passed test other xs h t) ∙ n))) (λ f. f) (true_or_false (any test xs))

-- Every line of a gate in bounds has a block.
pub lines_blocks : (g : Gate) → out_of_bounds g ≡ false → any (λ l. not (is_block l.block)) g.lines ≡ false
unfolding out_of_bounds
lines_blocks g i =
    let good = (neither (bad_beside_lines g.ports (length g.lines) g.marked g.automatic) (any (bad_line g.ports) g.lines) i).1 in
    none_passed (λ l. not (is_block l.block)) (bad_line g.ports) g.lines bad good
  where
    bad : (l : Line) → not (is_block l.block) ≡ true → bad_line g.ports l ≡ true
    bad l t = rw t (ap (λ (t : Bool). leb g.ports l.port || t) (or-true (bad_node l.node)) ∙ or-true (leb g.ports l.port))

-- "The decision equals the one taken by reading the table from the top."
pub decision : (g : Gate) (p e : ℕ) → out_of_bounds g ≡ false → p < 8 → wants_by_size (index_of g.lines) g p e ≡ wants g p e
unfolding wants
decision g p e i there = ap (λ (t : Bool). in_block g.automatic e || (g.marked p || t)) (by_size_lem g.lines p e there (lines_blocks g i))
