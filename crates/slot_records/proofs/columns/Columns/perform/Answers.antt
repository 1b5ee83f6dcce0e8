use mathlib.Core.Path.{refl, ◌∙◌}
use borrow.Author.Rules.{rules}
use Rattle.slot_records.specs.Columns.{Fits}
use Rattle.slot_records.proofs.Called.{few_min, call_left}
use Rattle.slot_records.proofs.columns.Columns.perform.Goals as goal

pub returns : goal.returns
returns c =
    let b = c.args.self.now in
    let full : Fits b.count b = record { count = refl; roles = search rules; events = search rules; statuses = search rules; marks = search rules } in
    let n = c.min-n in
    let p = c.perform-answer in
    let both = call_left c.args.node c.args.call c.args.bytes.now c.args.out.now b full n.result (n.ensures ∙ few_min b.count) p.new.statuses p.new.marks p.auto.statuses p.auto.marks p.ensures in
    record { out_value = both.0; fits = both.1 }
