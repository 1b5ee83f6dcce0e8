-- Each return is one of the ways that writing can go.
use Prim.Native.Nat.{ℕ, ◌+◌}
use mathlib.Core.Path.{◌≡◌, sym, ap, ◌∙◌}
use mathlib.Core.List.{List}
use native.Mathlib.Omega.{arith}
use lib.ListN.{length}
use Rattle.std.specs.Prelude.{Ok}
use Rattle.std.proofs.lemmas.Result.{err_from_is_err_and}
use Rattle.basics.specs.Refusals.{first_of, told_of}
use Rattle.basics.proofs.Numbers.{refusal_numbered}
use Rattle.message.specs.declared.Message.{Message}
use Rattle.message.specs.Mti.{content_at}
use Rattle.message.specs.Messages.{message_bytes, content_tests}
use Rattle.message.proofs.Writings.{message_length_lem, passed_tests, content_placed, write_barred, write_content, write_full, write_done}
use Rattle.message.proofs.Tellings.{write_told_lem}
use Rattle.message.proofs.writer.write.Goals as goal

-- A message that passes the tests takes the place of its content and the content's length.
size_of : (m : Message) (s : List ℕ) {at : ℕ} → at ≡ content_at m.mti → 0 ≡ first_of (content_tests m s) → at + length s ≡ length (message_bytes m s)
size_of m s e good = ap (λ (k : ℕ). k + length s) e ∙ sym (message_length_lem m s (content_placed m s (passed_tests m s (sym good)).1))

pub returns-then-barred : goal.returns-then-barred
returns-then-barred c =
    let a = write_barred c.args.message c.args.body.now c.args.out.now (sym c.if-barred.ensures) in
    record { result_value = a.tells; out_after = a.kept }

pub returns-in_err-check : goal.returns-in_err-check
returns-in_err-check c =
    let e = c.in_err-check in
    let a = write_content c.args.message c.args.body.now c.args.out.now (sym c.if-barred.ensures) (λ z. refusal_numbered e.field-0.0 (e.ensures ∙ z)) in
    let p = err_from_is_err_and c.from_residual.result c.from_residual.ensures.1 in
    record { result_value = rw (p.1, p.2, e.ensures) a.tells; out_after = a.kept }

pub returns-then-out-at : goal.returns-then-out-at
returns-then-out-at c =
    let size = size_of c.args.message c.args.body.now c.content_at-at.ensures c.in_ok-check.ensures in
    let a = write_full c.args.message c.args.body.now c.args.out.now (sym c.if-barred.ensures) (sym c.in_ok-check.ensures) (omega (arith, size, c.if-out-at.true)) in
    record { result_value = a.tells; out_after = a.kept }

pub returns-then-out-at-2 : goal.returns-then-out-at-2
returns-then-out-at-2 c =
    let size = size_of c.args.message c.args.body.now c.content_at-at.ensures c.in_ok-check.ensures in
    let a = write_full c.args.message c.args.body.now c.args.out.now (sym c.if-barred.ensures) (sym c.in_ok-check.ensures) (omega (arith, size, c.if-out-at-2.true, c.if-out-at.false)) in
    record { result_value = a.tells; out_after = a.kept }

pub put_message-requires : goal.put_message-requires
put_message-requires c =
    let size = size_of c.args.message c.args.body.now c.content_at-at.ensures c.in_ok-check.ensures in
    omega (arith, size, c.if-out-at-2.false, c.if-out-at.false)

pub returns : goal.returns
returns c =
    let size = size_of c.args.message c.args.body.now c.content_at-at.ensures c.in_ok-check.ensures in
    let done = write_done c.args.message c.args.body.now c.args.out.now (sym c.if-barred.ensures) (sym c.in_ok-check.ensures) (omega (arith, size, c.if-out-at-2.false, c.if-out-at.false)) in
    record { result_value = ap told_of (ap Ok size ∙ done.0) ∙ write_told_lem c.args.message c.args.body.now c.args.out.now; out_after = c.put_message.ensures ∙ done.1 }
