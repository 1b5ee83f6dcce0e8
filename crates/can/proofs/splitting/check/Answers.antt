-- Writing without room refuses with 2 to 5 or with 6, and 6 is then all that writing has against the message.
use Rattle.std.proofs.Common.{sym, ap, ◌∙◌, cond, inl, inr, ⊎_elim, rules}
use denote.Enum.Bare.{differs_true, differs_false}
use Rattle.basics.specs.contracts.Refusal.{the_type}
use Rattle.basics.specs.declared.Refusal.TheVariants.{NoRoom}
use Rattle.basics.specs.Refusals.{refusal_number}
use Rattle.basics.proofs.Numbers.{refusal_once}
use Rattle.can.proofs.Splits.{never_written, refused_before, passed_before, is_report_lem, is_none}
use Rattle.can.proofs.splitting.check.Goals as goal

pub returns-in_default : goal.returns-in_default
returns-in_default c = absurd (never_written c.args.message c.args.payload.now c.write.result c.write.ensures.result_value _ c.in_default.is)

pub returns-then-ne : goal.returns-then-ne
returns-then-ne c =
    refused_before c.args.message c.args.payload.now c.write.result c.write.ensures.result_value _ c.in-Err.is
    (λ six. differs_true the_type c.in-Err.refusal NoRoom (sym c.if-ne.ensures) (refusal_once c.in-Err.refusal NoRoom six))

pub returns-then-message-ne3860 : goal.returns-then-message-ne3860
returns-then-message-ne3860 c =
    let six = ap refusal_number (differs_false the_type (search rules) c.in-Err.refusal NoRoom (sym c.if-ne.ensures)) in
    let passed = passed_before c.args.message c.args.payload.now c.write.result c.write.ensures.result_value _ c.in-Err.is six in
    sym (passed ∙ ap (λ t. cond t 29 0) (is_none c.args.message c.args.payload.now c.if-message-ne1460.true c.if-message-ne3860.true))

pub returns : goal.returns
returns c =
    let six = ap refusal_number (differs_false the_type (search rules) c.in-Err.refusal NoRoom (sym c.if-ne.ensures)) in
    let passed = passed_before c.args.message c.args.payload.now c.write.result c.write.ensures.result_value _ c.in-Err.is six in
    sym (passed ∙ ap (λ t. cond t 29 0) (is_report_lem c.args.message c.args.payload.now (⊎_elim (λ p. inr p.1) inl c.else-message-ne1460.either)))
