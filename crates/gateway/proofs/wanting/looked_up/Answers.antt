-- A report is looked up unless its event is automatic.
use borrow.Enum.Refused.{opened}
use mathlib.Core.Path.{sym, ◌∙◌}
use Rattle.gateway.proofs.Wanted.{no_report_lem, automatic_report, looked_up_report}
use Rattle.gateway.proofs.wanting.looked_up.Goals as goal

pub returns-in_default : goal.returns-in_default
returns-in_default c = no_report_lem c.args.automatic c.args.saying (opened c.in_default.in_default-own.keys2)

pub returns-then-holds : goal.returns-then-holds
returns-then-holds c =
    let a = c.args in
    automatic_report a.automatic a.saying c.in-Report.e c.in-Report.is (sym c.holds.ensures ∙ c.if-holds.true)

pub returns : goal.returns
returns c =
    let a = c.args in
    looked_up_report a.automatic a.saying c.in-Report.e c.in-Report.is (sym c.holds.ensures ∙ c.if-holds.false)
