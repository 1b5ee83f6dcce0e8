-- Past the tests the block has a number, and bit k of its start says which.
use mathlib.Core.Path.{sym, ap, ◌∙◌}
use native.Mathlib.Omega.{arith}
use lib.Bits.{bit_or}
use Prim.Native.Nat.{◌<◌, ◌^◌}
use Rattle.basics.specs.Refusals.{told}
use Rattle.range.proofs.Masks.{ones_below}
use Rattle.range.proofs.Laws.{block_parts, number_told_lem, number_refused, single_no_number, no_block_no_number, number_ones, number_zeros, number_whole}
use Rattle.range.proofs.number_of.Goals.{then-b-eq0-via-then-b-eq0, then-b-eq0-via-else-b-eq0+then-not-is_block}
use Rattle.range.proofs.number_of.Goals as goal

pub returns-then-b-eq0 : goal.returns-then-b-eq0
returns-then-b-eq0 c =
    let b = c.args.b in
    elim c.then-b-eq0.branch [
      | then-b-eq0-via-then-b-eq0 w ↦ sym (number_refused b (single_no_number b w.if-b-eq0.true))
      | then-b-eq0-via-else-b-eq0+then-not-is_block w ↦ sym (number_refused b (no_block_no_number b (sym w.if-not-is_block.ensures)))
    ]

pub returns-then-b-eq64 : goal.returns-then-b-eq64
returns-then-b-eq64 c =
    let b = c.args.b in
    let block = sym c.if-not-is_block.ensures in
    let fits : b.start < 2 ^ 64 = omega arith in
    sym (number_told_lem b c.if-b-eq0.false block ∙ ap told (number_whole b fits c.if-b-eq64.true block))

pub overflow_shr-b : goal.overflow_shr-b
overflow_shr-b c = let size = (block_parts c.args.b (sym c.if-not-is_block.ensures)).0 in omega arith

pub mask-requires : goal.mask-requires
mask-requires c = (block_parts c.args.b (sym c.if-not-is_block.ensures)).0

pub returns-then-b-eq0-2 : goal.returns-then-b-eq0-2
returns-then-b-eq0-2 c =
    let b = c.args.b in
    let block = sym c.if-not-is_block.ensures in
    let ones = ap (bit_or b.start) c.mask.ensures ∙ ones_below b.start b.k (block_parts b block).1 in
    sym (number_told_lem b c.if-b-eq0.false block ∙ ap told (number_ones b c.if-b-eq0-2.true ∙ sym ones))

pub returns-else-b-eq0-2 : goal.returns-else-b-eq0-2
returns-else-b-eq0-2 c =
    sym (number_told_lem c.args.b c.if-b-eq0.false (sym c.if-not-is_block.ensures) ∙ ap told (number_zeros c.args.b c.if-b-eq0-2.false))
