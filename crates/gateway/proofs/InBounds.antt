-- What a state in bounds gives the code: at most 256 lines, at most 8 ports, an automatic block, and good lines.
use Prim.Native.Nat.{ℕ, ◌≤◌, ◌<◌}
use mathlib.Core.Path.{◌≡◌, refl, sym, ap, ◌∙◌}
use mathlib.Core.Bool.{Bool, true, false, not, ◌||◌}
use mathlib.Core.List.{List, [], ◌∷◌}
use native.Mathlib.Omega.{arith}
use borrow.Author.Tests.{leb-false, ltb-false, not-false}
use lib.Dec.{leb, ltb}
use Rattle.range.specs.Range.{is_block, has_number}
use Rattle.range.proofs.Laws.{number_parts, block_parts}
use Rattle.message.specs.Messages.{bad_node}
use Rattle.basics.specs.Lists.{any}
use Rattle.basics.specs.Sets.{in_set}
use Rattle.basics.proofs.Bools.{neither}
use Rattle.basics.proofs.Each.{each_length}
use Rattle.gateway_rules.specs.declared.Line.{Line}
use Rattle.gateway_rules.specs.State.{bad_ports, bad_line, stray_mark, bad_beside_lines, out_of_bounds}
use Rattle.gateway_rules.proofs.Sending.{two_to_eight}
use Rattle.gateway.specs.declared.state.Head.{Head}
use Rattle.gateway.specs.State.{Lists, line_at, lines_in, gate_in, bad_head, no_block}
use Rattle.gateway.specs.Indexing.{Sized, Blocks}
use Rattle.gateway.proofs.Firsts.{none_at}

-- ---- a line

line_parts : (ports : ℕ) (l : Line) → bad_line ports l ≡ false → (l.port < ports) × (bad_node l.node ≡ false) × (is_block l.block ≡ true)
line_parts ports l e =
    let h = neither (leb ports l.port) (bad_node l.node || not (is_block l.block)) e in
    let k = neither (bad_node l.node) (not (is_block l.block)) h.1 in
    (leb-false ports l.port h.0, k.0, not-false (is_block l.block) k.1)

-- A line that is good for fewer ports is good for 8.
good_line : (ports : ℕ) (l : Line) → ports ≤ 8 → bad_line ports l ≡ false → (l.port < 8) × (is_block l.block ≡ true)
good_line ports l b e = let h = line_parts ports l e in (omega (arith, h.0, b), h.2)

-- ---- the state

-- Once the head is known to be out of bounds or not.
pub by_head : (head : Head) (t : Lists) {y : Bool} → bad_head head ≡ y → out_of_bounds (gate_in head t) ≡ (y || any (bad_line head.ports) (lines_in head.count t))
unfolding out_of_bounds gate_in
by_head head t e =
    let lines = any (bad_line head.ports) (lines_in head.count t) in
    ap (λ (n : ℕ). bad_beside_lines head.ports n (in_set head.marks) head.automatic || lines) (each_length head.count (line_at t)) ∙ ap (λ (y : Bool). y || lines) e

in_bounds : (head : Head) (t : Lists) → out_of_bounds (gate_in head t) ≡ false → (bad_head head ≡ false) × (any (bad_line head.ports) (lines_in head.count t) ≡ false)
in_bounds head t o = neither (bad_head head) (any (bad_line head.ports) (lines_in head.count t)) (sym (by_head head t refl) ∙ o)

pub head_good : (head : Head) (t : Lists) → out_of_bounds (gate_in head t) ≡ false → bad_head head ≡ false
head_good head t o = (in_bounds head t o).0

-- Every line has a block.
all_blocks : (ports : ℕ) (lines : List Line) → any (bad_line ports) lines ≡ false → any no_block lines ≡ false
all_blocks ports [] e = refl
all_blocks ports (l ∷ lines) e =
    let h = neither (bad_line ports l) (any (bad_line ports) lines) e in
    rw (line_parts ports l h.0).2 (all_blocks ports lines h.1)

pub blocks_good : (head : Head) (t : Lists) → out_of_bounds (gate_in head t) ≡ false → any no_block (lines_in head.count t) ≡ false
blocks_good head t o = all_blocks head.ports (lines_in head.count t) (in_bounds head t o).1

-- ---- the head

module _ (head : Head) (o : bad_head head ≡ false) where
  parts : (bad_ports head.ports ≡ false) × (ltb 256 head.count ≡ false) × (not (has_number head.automatic) ≡ false)
  parts =
      let stray = stray_mark head.ports (in_set head.marks) in
      let h = neither (bad_ports head.ports) (ltb 256 head.count || (stray || not (has_number head.automatic))) o in
      let k = neither (ltb 256 head.count) (stray || not (has_number head.automatic)) h.1 in
      (h.0, k.0, (neither stray (not (has_number head.automatic)) k.1).1)

  pub few_lines : head.count ≤ 256
  few_lines = ltb-false 256 head.count parts.1

  pub few_ports : head.ports ≤ 8
  few_ports = ((two_to_eight head.ports).0 parts.0).1

  pub automatic_block : is_block head.automatic ≡ true
  automatic_block = (number_parts head.automatic (not-false (has_number head.automatic) parts.2)).1

-- ---- for the index

-- Every line is at one of eight ports, of a size of at most 64, and has a block.
module _ (head : Head) (t : Lists) (o : out_of_bounds (gate_in head t) ≡ false) where
  line_good : (i : ℕ) → i < head.count → ((line_at t i).port < 8) × (is_block (line_at t i).block ≡ true)
  line_good i l =
      good_line head.ports (line_at t i) (few_ports head (head_good head t o)) (none_at (bad_line head.ports) head.count (line_at t) i l (in_bounds head t o).1)

  pub lines_sized : Sized head.count t.ports t.sizes
  lines_sized = record { port = λ i l. (line_good i l).0; size = λ i l. (block_parts (line_at t i).block (line_good i l).1).0 }

  pub lines_blocks : Blocks head.count t.starts t.sizes
  lines_blocks = record { block = λ i l. (line_good i l).1 }
