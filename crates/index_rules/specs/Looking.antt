-- A report looked up in the index (document 02, W6: "size by size, smallest first").
use Rattle.std.specs.Prelude.{ℕ, ◌*◌, ◌/◌, ◌^◌, Bool, cond, ◌&&◌, ◌||◌, List, eqb, ltb, get_or}
use Rattle.range.specs.Range.{in_block}
use Rattle.basics.specs.Lists.{any, each}
use Rattle.basics.specs.Sets.{in_set}
use Rattle.gateway_rules.specs.declared.Line.{Line}
use Rattle.gateway_rules.specs.State.{Gate}
use Rattle.index_rules.specs.Index.{Index, line_of, of_size}

-- The index has a size at a port.
abbrev pub has_size : Index → ℕ → ℕ → Bool
has_size x p k = cond (ltb k 64) (in_set (get_or x.sets p 0) k) (in_set (get_or x.sets 8 0) p)

-- Where the one block of size k that holds an event begins.
abbrev pub beginning : ℕ → ℕ → ℕ
beginning e k = e / 2 ^ k * 2 ^ k

-- A line is for a port, of a size, and begins with an event.
abbrev pub placed_at : ℕ → ℕ → ℕ → Line → Bool
placed_at p k start l = of_size p k l && eqb l.block.start start

-- Among the lines that the order names is the block of that size which holds the event.
abbrev pub found_at : Index → List Line → ℕ → ℕ → ℕ → Bool
found_at x lines p e k = any (λ i. placed_at p k (beginning e k) (line_of lines i)) x.order

-- Size by size, from 0 to the whole space: of those that occur, the first that is found decides.
unfoldable pub by_size : Index → List Line → ℕ → ℕ → Bool
by_size x lines p e = any (λ k. has_size x p k && found_at x lines p e k) (each 65 (λ k. k))

-- The decision on a report that goes by the index: where it stood `any (line_holds p e) lines` in `wants`, `by_size` stands.
abbrev pub wants_by_size : Index → Gate → ℕ → ℕ → Bool
wants_by_size x g p e = in_block g.automatic e || (g.marked p || by_size x g.lines p e)
