-- The refusal, or the message of bytes that nothing is refused of.
use Prim.Native.Nat.{ℕ}
use mathlib.Core.Path.{refl, ap, ◌∙◌}
use Rattle.std.proofs.lemmas.Result.{err_from_is_err_and}
use Rattle.numbers.proofs.Laws.{number_at_below}
use Rattle.basics.specs.Refusals.{told_of}
use Rattle.basics.proofs.Numbers.{refusal_numbered}
use Rattle.message.specs.Reading.{fields_in}
use Rattle.message.proofs.Readings.{read_no, read_yes}
use Rattle.message.proofs.Tellings.{read_told_lem}
use Rattle.message.proofs.reader.read.Goals as goal

pub returns-in_err-check : goal.returns-in_err-check
returns-in_err-check c =
    let s = c.args.bytes.now in
    let p = err_from_is_err_and c.from_residual.result c.from_residual.ensures.1 in
    rw (p.1, p.2) (ap told_of (read_no s c.in_err-check.ensures (refusal_numbered c.in_err-check.field-0.0)) ∙ read_told_lem s)

pub overflow_cast-code : goal.overflow_cast-code
overflow_cast-code c = record { fits = rw c.read_at-code.ensures (number_at_below c.args.bytes.now 0 2 (λ k. (c.type_inv.bytes k).fits)) }

pub returns : goal.returns
returns c =
    let s = c.args.bytes.now in
    ap told_of (read_yes s c.in_ok-check.ensures refl (c.fields-message.ensures ∙ ap (λ (m : ℕ). fields_in m s) c.read_at-code.ensures)) ∙ read_told_lem s
