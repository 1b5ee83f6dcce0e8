-- The index in the code's lists: the order's numbers, and what they and the sets are asked.
use Rattle.std.specs.Prelude.{ℕ, ◌+◌, ◌^◌, ◌≤◌, ◌<◌, ◌≡◌, Bool, true, false, ◌&&◌, ◌||◌, List, eqb, length, get_or}
use Rattle.range.specs.declared.Block.{Block}
use Rattle.range.specs.Range.{is_block, in_block}
use Rattle.basics.specs.Sets.{any_below}
use Rattle.index_rules.specs.Index.{spot, size_sets}
use Rattle.index_rules.specs.Agreeing.{Agrees, Lowered}
use Rattle.gateway.specs.declared.state.Gateway.{Gateway}
use Rattle.gateway.specs.State.{Lists, IndexLists, lists_of, index_lists_of, gate_of}
use Rattle.gateway_rules.specs.State.{full, out_of_bounds}

-- The spot of the line at a place.
abbrev pub spot_in : List ℕ → List ℕ → List ℕ → ℕ → ℕ
spot_in starts ports sizes p = spot (get_or ports p 0) (get_or sizes p 0) (get_or starts p 0)

-- The number at a place of the order.
abbrev pub entry_in : List ℕ → ℕ → ℕ
entry_in order i = get_or order i 0

-- The lists that spots are made of have 256 places each.
abbrev pub WholeSpots : List ℕ → List ℕ → List ℕ → Type 0
WholeSpots starts ports sizes = (length starts ≡ full) × (length ports ≡ full) × (length sizes ≡ full)

-- The block of the line at a place.
abbrev pub block_in : List ℕ → List ℕ → ℕ → Block
block_in starts sizes i = record { start = get_or starts i 0; k = get_or sizes i 0 }

-- ---- asked of the first n lines

-- One is for a port and of a size.
abbrev pub occurs_in : ℕ → List ℕ → List ℕ → ℕ → ℕ → Bool
occurs_in n ports sizes p k = any_below n (λ i. eqb (get_or ports i 0) p && eqb (get_or sizes i 0) k)

-- One is for a port, of a size, and begins with an event.
abbrev pub placed_in : ℕ → List ℕ → List ℕ → List ℕ → ℕ → ℕ → ℕ → Bool
placed_in n starts ports sizes p k start = any_below n (λ i. (eqb (get_or ports i 0) p && eqb (get_or sizes i 0) k) && eqb (get_or starts i 0) start)

-- One is for a port and holds an event.
abbrev pub holding_in : ℕ → List ℕ → List ℕ → List ℕ → ℕ → ℕ → Bool
holding_in n starts ports sizes p e = any_below n (λ i. eqb (get_or ports i 0) p && in_block (block_in starts sizes i) e)

-- Each has a block.
pub record Blocks (n : ℕ) (starts sizes : List ℕ) : Type 0 where
  pub block : (i : ℕ) → i < n → is_block (block_in starts sizes i) ≡ true

-- Each is for one of eight ports, and of a size of at most 64.
pub record Sized (n : ℕ) (ports sizes : List ℕ) : Type 0 where
  pub port : (i : ℕ) → i < n → get_or ports i 0 < 8
  pub size : (i : ℕ) → i < n → get_or sizes i 0 ≤ 64

-- The order and the sets are those of the first n lines.
pub record Indexed (n : ℕ) (starts ports sizes order sets : List ℕ) : Type 0 where
  pub agrees : Agrees (spot_in starts ports sizes) n (entry_in order)
  pub occurring : sets ≡ size_sets (occurs_in n ports sizes)

abbrev pub IndexFits : ℕ → Lists → IndexLists → Type 0
IndexFits n t x = Indexed n t.starts t.ports t.sizes x.order x.sets

-- ---- of the state

abbrev pub spots_of : Gateway → ℕ → ℕ
spots_of g = spot_in g.starts g.ports g.sizes

-- A line is for a port, of a size, and begins with an event; one is for a port and holds an event.
abbrev pub placed_at : Gateway → ℕ → ℕ → ℕ → Bool
placed_at g = placed_in g.head.count g.starts g.ports g.sizes

abbrev pub held_in : Gateway → ℕ → ℕ → Bool
held_in g = holding_in g.head.count g.starts g.ports g.sizes

-- The index is that of the lines.
abbrev pub Fits : Gateway → Type 0
Fits g = IndexFits g.head.count (lists_of g) (index_lists_of g)

-- The state is in bounds, with the index of its lines, and what they begin with are events.
pub record Sound (g : Gateway) : Type 0 where
  pub in_bounds : out_of_bounds (gate_of g) ≡ false
  pub index_fits : Fits g
  pub events : (i : ℕ) → get_or g.starts i 0 < 2 ^ 64

-- The order has 256 places, and there are nine sets.
abbrev pub WholeIndex : IndexLists → Type 0
WholeIndex x = (length x.order ≡ full) × (length x.sets ≡ 9)

-- ---- what the passes do

-- A size is put into the sets at a port.
pub record SizePut (p k : ℕ) (before after : List ℕ) : Type 0 where
  pub put : (occursAt : ℕ → ℕ → Bool) → before ≡ size_sets occursAt → after ≡ size_sets (λ q j. occursAt q j || (eqb p q && eqb k j))

-- So many of the first n numbers are below a bound, and the others are not.
pub record Split (at : ℕ → ℕ) (n bound place : ℕ) : Type 0 where
  pub within : place ≤ n
  pub under : (i : ℕ) → i < place → at i < bound
  pub over : (i : ℕ) → place ≤ i → i < n → bound ≤ at i

-- The number n stands at a place, and those of the first n from there on have moved up.
pub record PutIn (n place : ℕ) (before after : List ℕ) : Type 0 where
  pub front : (i : ℕ) → i < place → get_or after i 0 ≡ get_or before i 0
  pub here : get_or after place 0 ≡ n
  pub back : (i next : ℕ) → i + 1 ≡ next → place ≤ i → i < n → get_or after next 0 ≡ get_or before i 0

-- Each of the first n numbers is below n, and is not lowered below 0.
pub record Lowerable (n : ℕ) (order falls : List ℕ) : Type 0 where
  pub below : (i : ℕ) → i < n → get_or order i 0 < n
  pub falling : (p : ℕ) → p < n → get_or falls p 0 < 256 → get_or falls p 0 ≤ p

-- No number is lowered.
pub record Level (falls : List ℕ) : Type 0 where
  pub still : (p : ℕ) → get_or falls p 0 ≡ 0

-- What the index of n lines is to follow: its numbers, taken out and lowered, are in the order of those that stayed; where all stayed, it is as it should be.
pub record Follows (n kept : ℕ) (starts ports sizes order sets falls : List ℕ) : Type 0 where
  pub lowerable : Lowerable n order falls
  pub agreeing : (to : ℕ → ℕ) → Lowered falls (entry_in order) n to → Agrees (spot_in starts ports sizes) kept to
  pub unmoved : kept ≡ n → Indexed n starts ports sizes order sets
