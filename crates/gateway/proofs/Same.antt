-- What stays as it was, and what follows from that.
use Prim.Native.Nat.{ℕ, ◌+◌, ◌<◌}
use mathlib.Core.Path.{◌≡◌, refl, sym, ap, ◌∙◌, subst}
use mathlib.Core.Bool.{Bool, true, cond}
use mathlib.Core.List.{List}
use native.Mathlib.Omega.{arith}
use borrow.Author.Tests.{lt-ltb}
use lib.Dec.{ltb}
use lib.ListN.{length}
use Rattle.basics.specs.Lists.{without}
use Rattle.basics.specs.Sets.{in_set}
use Rattle.basics.proofs.Each.{each_length}
use Rattle.gateway_rules.specs.declared.Line.{Line}
use Rattle.gateway_rules.specs.State.{Gate}
use Rattle.gateway_rules.specs.Step.{adding, held_by, holds_some, opening, storing, with_lines}
use Rattle.gateway.specs.declared.state.Gateway.{Gateway}
use Rattle.gateway.specs.declared.state.Head.{Head}
use Rattle.gateway.specs.declared.table.Table.{Table}
use Rattle.gateway.specs.State.{Lists, IndexLists, Whole, line_at, lists_of, lines_of, index_lists_of, gate_of, gate_in, head_with, put_at}
use Rattle.gateway.specs.Indexing.{IndexFits, Fits, spots_of, spot_in}
use Rattle.gateway.specs.Lent.{SameBox, SameIndex, SameLines, PutAt}
use Rattle.gateway.proofs.Following.{fits_same}
use Rattle.gateway.proofs.Marks.{fewer_kept}
use Rattle.gateway.proofs.Places.{put_last, put_elsewhere}

pub same_spots : {g h : Gateway} → SameLines g h → spots_of g ≡ spots_of h
same_spots s = ap (λ (t : Lists). spot_in t.starts t.ports t.sizes) s.lines

pub same_gate : {g h : Gateway} → SameLines g h → gate_of g ≡ gate_of h
same_gate s = λ i. gate_in (s.head i) (s.lines i)

pub same_again : (t : Table) → SameBox t t
same_again t = record { nodes = refl; starts = refl; ports = refl; sizes = refl; order = refl; sets = refl; port_count = refl; automatic = refl }

pub same_on : {t u v : Table} → SameBox t u → SameBox u v → SameBox t v
same_on a b = record {
  nodes = a.nodes ∙ b.nodes;
  starts = a.starts ∙ b.starts;
  ports = a.ports ∙ b.ports;
  sizes = a.sizes ∙ b.sizes;
  order = a.order ∙ b.order;
  sets = a.sets ∙ b.sets;
  port_count = a.port_count ∙ b.port_count;
  automatic = a.automatic ∙ b.automatic;
}

pub same_index : (g : Gateway) → SameIndex g g
same_index g = record { order = refl; sets = refl }

pub index_on : {g h k : Gateway} → SameIndex g h → SameIndex h k → SameIndex g k
index_on a b = record { order = a.order ∙ b.order; sets = a.sets ∙ b.sets }

pub index_same : {g h : Gateway} → SameIndex g h → index_lists_of g ≡ index_lists_of h
index_same s = λ i. record { order = s.order i; sets = s.sets i }

-- ---- the state with other lines

pub left_lines : (g h : Gateway) (lines : List Line) → g.head.ports ≡ h.head.ports → g.head.automatic ≡ h.head.automatic → h.head.marks ≡ g.head.marks → lines_of h ≡ lines
    → gate_of h ≡ with_lines (gate_of g) lines
unfolding gate_in
left_lines g h lines p a m e = λ i. record { ports = sym p i; automatic = sym a i; lines = e i; marked = in_set (m i) }

-- A line put behind the others.
pub put_adds : (g h : Gateway) (l : Line) → Whole (lists_of g) → g.head.count < 256 → g.head ≡ h.head → lists_of h ≡ put_at g.head.count l (lists_of g)
    → gate_in (head_with h.head h.head.marks (g.head.count + 1)) (lists_of h) ≡ adding (gate_of g) l
unfolding gate_in
put_adds g h l w f e p =
    (λ i. gate_in (head_with (sym e i) (sym e i).marks (g.head.count + 1)) (p i)) ∙ ap (with_lines (gate_of g)) (put_last g.head.count (lists_of g) l w f)

-- The index does not see it yet.
pub put_fits : {g h : Gateway} {l : Line} → PutAt g.head.count l g h → Fits g → Fits h
put_fits {g} {h} {l} p f =
    let n = g.head.count in
    let fits = fits_same n (lists_of g) (lists_of h) (index_lists_of g) (λ q b. ap (λ (t : Lists). line_at t q) p.lines ∙ put_elsewhere (lists_of g) n l q (λ z. omega (arith, z, b))) f in
    subst (λ (x : IndexLists). IndexFits h.head.count (lists_of h) x) (index_same p.index) (subst (λ (k : ℕ). IndexFits k (lists_of h) (index_lists_of g)) (ap (λ (x : Head). x.count) p.head) fits)

-- There is room for a line once those that it holds are out.
pub room_left : (g h : Gateway) (l : Line) → gate_of h ≡ with_lines (gate_of g) (without (held_by l) (lines_of g)) → holds_some (lines_of g) l ≡ true → h.head.count < g.head.count
unfolding gate_in
room_left g h l e some = fewer_kept g.head (lists_of g) l (lists_of h) h.head.count (ap (λ (x : Gate). x.lines) e) some

pub room_stores : (g : Gateway) (l : Line) → g.head.count < 256 → adding (gate_of g) l ≡ storing (gate_of g) l
unfolding gate_in
room_stores g l f =
    let room : ltb (length (lines_of g)) 256 ≡ true = ap (λ (k : ℕ). ltb k 256) (each_length g.head.count (line_at (lists_of g))) ∙ lt-ltb g.head.count 256 f in
    sym (ap (λ (t : Bool). cond t (adding (gate_of g) l) (opening (gate_of g) l.port)) room)

-- What of the head never changes.
pub head_kept : {t u : Table} → SameBox t u → head_with t.head u.head.marks u.head.count ≡ u.head
head_kept {t} {u} s = λ i. record { ports = s.port_count i; marks = u.head.marks; automatic = s.automatic i; count = u.head.count }
