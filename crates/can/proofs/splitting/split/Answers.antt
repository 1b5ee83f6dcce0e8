-- The tests in their order; with 7, 2 to 5, 29 and 16 passed only room is left.
use Rattle.std.proofs.Common.{◌≡◌, Err, refl, sym, ap, ◌∙◌, unwrap_or, arith}
use Rattle.std.proofs.lemmas.Result.{err_from_is_err_and}
use Rattle.basics.specs.declared.Refusal.TheVariants.{NotListed}
use Rattle.basics.specs.Refusals.{refusal_number, in_numbers, told_of}
use Rattle.basics.proofs.Numbers.{refusal_numbered}
use Rattle.can_rules.specs.Aliases.{listed, no_alias, alias_for}
use Rattle.can.proofs.Missing.{none_from_err}
use Rattle.can.proofs.Splits.{alias_fits, split_7, split_message, split_16, split_rest}
use Rattle.can.proofs.splitting.split.Goals as goal

pub returns-then-out_of_bounds : goal.returns-then-out_of_bounds
returns-then-out_of_bounds c =
    let a = c.args in
    let both = split_7 (listed a.aliases.now a.nodes.now) a.message a.payload.now a.out.now (sym c.out_of_bounds.ensures ∙ c.if-out_of_bounds.true) in
    record { result_value = both.0; out_after = both.1 }

pub returns-in_err-check : goal.returns-in_err-check
returns-in_err-check c =
    let a = c.args in
    let p = err_from_is_err_and c.from_residual.result c.from_residual.ensures.1 in
    let k = c.in_err-check.field-0.0 in
    let both = split_message (listed a.aliases.now a.nodes.now) a.message a.payload.now a.out.now (sym c.out_of_bounds.ensures ∙ c.if-out_of_bounds.false) (refusal_number k) c.in_err-check.ensures (refusal_numbered k) in
    record { result_value = ap (λ r. told_of (in_numbers r)) (p.1 ∙ ap Err p.2) ∙ both.0; out_after = both.1 }

pub returns-in_err-alias : goal.returns-in_err-alias
returns-in_err-alias c =
    let a = c.args in
    let p = err_from_is_err_and c.from_residual-in_err-alias.result c.from_residual-in_err-alias.ensures.1 in
    let none = none_from_err c.alias_for.result NotListed _ (sym c.ok_or.ensures.value ∙ c.in_err-alias.was) in
    let unlisted : no_alias ≡ alias_for (listed a.aliases.now a.nodes.now) a.message.source = ap (λ o. unwrap_or o no_alias) (sym none.0) ∙ c.alias_for.ensures.value in
    let both = split_16 (listed a.aliases.now a.nodes.now) a.message a.payload.now a.out.now (sym c.out_of_bounds.ensures ∙ c.if-out_of_bounds.false) (sym c.in_ok-check.ensures) no_alias unlisted refl in
    record { result_value = ap (λ r. told_of (in_numbers r)) (p.1 ∙ ap Err (p.2 ∙ none.1)) ∙ both.0; out_after = both.1 }

pub put_report-requires : goal.put_report-requires
put_report-requires c =
    let a = c.args in
    record {
      alias_bound = alias_fits (listed a.aliases.now a.nodes.now) _ c.in_ok-alias.alias (sym c.out_of_bounds.ensures ∙ c.if-out_of_bounds.false) (sym c.in_ok-alias.ensures.ok_part ∙ c.alias_for.ensures.item);
      payload_value = sym c.in_ok-check.ensures;
    }

pub returns : goal.returns
returns c =
    let a = c.args in
    let bounded = sym c.out_of_bounds.ensures ∙ c.if-out_of_bounds.false in
    let fits = alias_fits (listed a.aliases.now a.nodes.now) _ c.in_ok-alias.alias bounded (sym c.in_ok-alias.ensures.ok_part ∙ c.alias_for.ensures.item) in
    let found = ap (λ o. unwrap_or o no_alias) (sym c.in_ok-alias.ensures.ok_part) ∙ c.alias_for.ensures.value in
    let both = split_rest (listed a.aliases.now a.nodes.now) a.message a.payload.now a.out.now bounded (sym c.in_ok-check.ensures) c.in_ok-alias.alias found (λ z. omega (arith, fits, z)) _ _ c.put_report.ensures.result_value c.put_report.ensures.out_after in
    record { result_value = both.0; out_after = both.1 }
