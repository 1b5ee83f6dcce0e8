-- The state in lent lists, and what changes there.
use Rattle.std.specs.Prelude.{ℕ, ◌≡◌, get_or}
use Rattle.gateway_rules.specs.declared.Line.{Line}
use Rattle.gateway.specs.declared.state.Gateway.{Gateway}
use Rattle.index_rules.specs.Index.{spot}
use Rattle.gateway.specs.declared.order.Spot.{Spot}
use Rattle.gateway.specs.declared.table.Table.{Table}
use Rattle.gateway.specs.declared.table.TableView.{TableView}
use Rattle.gateway.specs.State.{lists_of, put_at}

abbrev pub state_in : Table → Gateway
state_in t = record { head = t.head; nodes = t.nodes.now; starts = t.starts.now; ports = t.ports.now; sizes = t.sizes.now; order = t.order.now; sets = t.sets.now }

abbrev pub state_seen : TableView → Gateway
state_seen t = record { head = t.head; nodes = t.nodes.now; starts = t.starts.now; ports = t.ports.now; sizes = t.sizes.now; order = t.order.now; sets = t.sets.now }

abbrev pub spot_number : Spot → ℕ
spot_number s = spot s.port s.k s.start

-- That of the line at a place.
abbrev pub spot_there : Gateway → ℕ → Spot
spot_there g i = record { port = get_or g.ports i 0; k = get_or g.sizes i 0; start = get_or g.starts i 0 }

-- The same lent lists, and what of the head never changes.
pub record SameBox (t u : Table) : Type 0 where
  pub nodes : t.nodes.ghost_name ≡ u.nodes.ghost_name
  pub starts : t.starts.ghost_name ≡ u.starts.ghost_name
  pub ports : t.ports.ghost_name ≡ u.ports.ghost_name
  pub sizes : t.sizes.ghost_name ≡ u.sizes.ghost_name
  pub order : t.order.ghost_name ≡ u.order.ghost_name
  pub sets : t.sets.ghost_name ≡ u.sets.ghost_name
  pub port_count : t.head.ports ≡ u.head.ports
  pub automatic : t.head.automatic ≡ u.head.automatic

-- ---- what stays as it was

pub record SameIndex (g h : Gateway) : Type 0 where
  pub order : g.order ≡ h.order
  pub sets : g.sets ≡ h.sets

pub record SameLines (g h : Gateway) : Type 0 where
  pub head : g.head ≡ h.head
  pub lines : lists_of g ≡ lists_of h

pub record SameButOrder (g h : Gateway) : Type 0 where
  pub lines : SameLines g h
  pub sets : g.sets ≡ h.sets

-- A line is put at a place, and nothing else is changed.
pub record PutAt (i : ℕ) (l : Line) (g h : Gateway) : Type 0 where
  pub head : g.head ≡ h.head
  pub lines : lists_of h ≡ put_at i l (lists_of g)
  pub index : SameIndex g h
