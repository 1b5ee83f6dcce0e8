use mathlib.Core.Path.{◌∙◌, sym, ap}
use native.Mathlib.Omega.{arith}
use Rattle.replay.specs.Files.{entry_at}
use Rattle.replay.proofs.Good.{good_file_lem, body_first}
use Rattle.replay.proofs.entries.Entries.of.Goals as goal

pub overflow_mul-result : goal.overflow_mul-result
overflow_mul-result c = omega (arith, (good_file_lem c.args.file.now (sym c.good_file.ensures ∙ c.if-not-good_file.false)).count, c.read_at.ensures)

pub overflow_add-result : goal.overflow_add-result
overflow_add-result c = omega (arith, (good_file_lem c.args.file.now (sym c.good_file.ensures ∙ c.if-not-good_file.false)).count, c.read_at.ensures)

pub invariant_of-result : goal.invariant_of-result
invariant_of-result c = record {
  good = sym c.good_file.ensures ∙ c.if-not-good_file.false;
  within = omega arith;
  placed = ap entry_at c.read_at.ensures ∙ sym (body_first c.args.file.now);
}
