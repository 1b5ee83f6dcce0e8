-- The gateway's state (document 01, "Gateway": "State", "Out of bounds", and the start).
use Rattle.std.specs.Prelude.{ℕ, Bool, false, not, ◌&&◌, ◌||◌, List, [], leb, ltb, length}
use Rattle.range.specs.declared.Block.{Block}
use Rattle.range.specs.Range.{is_block, has_number, block_of}
use Rattle.basics.specs.Lists.{any}
use Rattle.basics.specs.Sets.{any_below}
use Rattle.message.specs.Messages.{bad_node}
use Rattle.gateway_rules.specs.declared.Line.{Line}

-- Port count, automatic block, the lines of the table, and an open mark per port.
pub record Gate : Type 0 where
  pub ports : ℕ
  pub automatic : Block
  pub lines : List Line
  pub marked : ℕ → Bool

-- A table of at most 256 lines.
abbrev pub full : ℕ
full = 256

-- ---- out of bounds

-- Ports not 2 to 8.
abbrev pub bad_ports : ℕ → Bool
bad_ports n = not (leb 2 n && leb n 8)

-- A line with a port not below the count, a bad Node ID, k over 64 or a start not a multiple of 2^k.
abbrev pub bad_line : ℕ → Line → Bool
bad_line ports l = leb ports l.port || (bad_node l.node || not (is_block l.block))

-- An open mark on a port that isn't there. There are eight marks.
abbrev pub stray_mark : ℕ → (ℕ → Bool) → Bool
stray_mark ports marked = any_below 8 (λ p. leb ports p && marked p)

-- All but the lines: the ports, over 256 lines, an open mark, an automatic block with such a k or start or with k = 0, which has no range number.
abbrev pub bad_beside_lines : ℕ → ℕ → (ℕ → Bool) → Block → Bool
bad_beside_lines ports count marked automatic = bad_ports ports || (ltb full count || (stray_mark ports marked || not (has_number automatic)))

unfoldable pub out_of_bounds : Gate → Bool
out_of_bounds g = bad_beside_lines g.ports (length g.lines) g.marked g.automatic || any (bad_line g.ports) g.lines

-- ---- the start

-- No lines, no open mark and the block of the number given.
abbrev pub start_of : ℕ → ℕ → Gate
start_of ports r = record { ports = ports; automatic = block_of r; lines = []; marked = λ _. false }
