-- The rules' state from the code's: the lines stand in four lists, line i at place i of each, and the index in two more.
use Rattle.std.specs.Prelude.{ℕ, ◌<◌, ◌≡◌, Bool, not, List, length, get_or, set}
use Rattle.range.specs.declared.Block.{Block}
use Rattle.range.specs.Range.{is_block}
use Rattle.basics.specs.Lists.{each}
use Rattle.basics.specs.Sets.{in_set}
use Rattle.gateway_rules.specs.declared.Line.{Line}
use Rattle.gateway_rules.specs.State.{Gate, full, bad_beside_lines}
use Rattle.index_rules.specs.Index.{Index}
use Rattle.index_rules.specs.Boxes.{Box}
use Rattle.gateway.specs.declared.state.Head.{Head}
use Rattle.gateway.specs.declared.state.Gateway.{Gateway}

-- The lists that the lines stand in. At place i are line i's Node ID, its block's start and k, and its port.
pub record Lists : Type 0 where
  pub nodes : List ℕ
  pub starts : List ℕ
  pub ports : List ℕ
  pub sizes : List ℕ

abbrev pub lists : List ℕ → List ℕ → List ℕ → List ℕ → Lists
lists nodes starts ports sizes = record { nodes = nodes; starts = starts; ports = ports; sizes = sizes }

abbrev pub line_at : Lists → ℕ → Line
line_at t i = record { port = get_or t.ports i 0; node = get_or t.nodes i 0; block = record { start = get_or t.starts i 0; k = get_or t.sizes i 0 } }

-- The first n lines.
abbrev pub lines_in : ℕ → Lists → List Line
lines_in n t = each n (line_at t)

-- The first n numbers of one of the lists, and the first n blocks.
abbrev pub first_numbers : ℕ → List ℕ → List ℕ
first_numbers n xs = each n (λ i. get_or xs i 0)

abbrev pub first_blocks : ℕ → List ℕ → List ℕ → List Block
first_blocks n starts sizes = each n (λ i. record { start = get_or starts i 0; k = get_or sizes i 0 })

unfoldable pub gate_in : Head → Lists → Gate
gate_in h t = record { ports = h.ports; automatic = h.automatic; lines = lines_in h.count t; marked = in_set h.marks }

abbrev pub lists_of : Gateway → Lists
lists_of g = lists g.nodes g.starts g.ports g.sizes

abbrev pub lines_of : Gateway → List Line
lines_of g = lines_in g.head.count (lists_of g)

abbrev pub gate_of : Gateway → Gate
gate_of g = gate_in g.head (lists_of g)

-- The lists that the index stands in: the lines' numbers in order, and the sets of sizes (document 02, W6).
pub record IndexLists : Type 0 where
  pub order : List ℕ
  pub sets : List ℕ

abbrev pub index_lists : List ℕ → List ℕ → IndexLists
index_lists order sets = record { order = order; sets = sets }

-- The index of n lines: as many numbers, and all the sets.
abbrev pub index_in : ℕ → IndexLists → Index
index_in n x = record { order = first_numbers n x.order; sets = x.sets }

abbrev pub index_lists_of : Gateway → IndexLists
index_lists_of g = index_lists g.order g.sets

abbrev pub box_in : Head → Lists → IndexLists → Box
box_in h t x = record { gate = gate_in h t; index = index_in h.count x }

abbrev pub box_of : Gateway → Box
box_of g = box_in g.head (lists_of g) (index_lists_of g)

-- The head with other open marks and another line count: the rest of it never changes.
abbrev pub head_with : Head → ℕ → ℕ → Head
head_with h marks count = record { ports = h.ports; marks = marks; automatic = h.automatic; count = count }

-- Out of bounds but for the lines.
abbrev pub bad_head : Head → Bool
bad_head h = bad_beside_lines h.ports h.count (in_set h.marks) h.automatic

-- The lists with a line put at a place.
abbrev pub put_at : ℕ → Line → Lists → Lists
put_at i l t = lists (set t.nodes i l.node) (set t.starts i l.block.start) (set t.ports i l.port) (set t.sizes i l.block.k)

-- Lists of 256 places each.
abbrev pub Whole : Lists → Type 0
Whole t = (length t.nodes ≡ full) × (length t.starts ≡ full) × (length t.ports ≡ full) × (length t.sizes ≡ full)

-- A block that is none, and a line with such a one.
abbrev pub not_block : Block → Bool
not_block b = not (is_block b)

abbrev pub no_block : Line → Bool
no_block l = not_block l.block

-- ---- the same state

-- Heads and lists that differ only past the count (document 01, "Gateway": "Places past the line count aren't part of the state").
pub record SameToTheCount (h : Head) (t : Lists) (x : IndexLists) (k : Head) (u : Lists) (y : IndexLists) : Type 0 where
  pub ports : h.ports ≡ k.ports
  pub automatic : h.automatic ≡ k.automatic
  pub marks : h.marks ≡ k.marks
  pub count : h.count ≡ k.count
  pub places : (i : ℕ) → i < h.count → line_at t i ≡ line_at u i
  pub numbers : (i : ℕ) → i < h.count → get_or x.order i 0 ≡ get_or y.order i 0
  pub sets : x.sets ≡ y.sets

pub record SameLengths (t : Lists) (x : IndexLists) (u : Lists) (y : IndexLists) : Type 0 where
  pub nodes : length t.nodes ≡ length u.nodes
  pub starts : length t.starts ≡ length u.starts
  pub ports : length t.ports ≡ length u.ports
  pub sizes : length t.sizes ≡ length u.sizes
  pub order : length x.order ≡ length y.order
