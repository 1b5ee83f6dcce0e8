use Rattle.std.proofs.Common.{◌≡◌, length, rules, arith, ap}
use Rattle.can_rules.specs.Joining.{begun}
use Rattle.can.proofs.Growing.{longer_by}
use Rattle.can.proofs.Gathered.push.Goals as goal

pub returns-clause-grown : goal.returns-clause-grown
returns-clause-grown c =
    let g = c.args.self.now in
    let old : length g.payload ≡ 256 = search rules in
    ap (begun g.sender g.event) (longer_by g.payload _ c.args.bytes.now g.length _ c.copy_from_slice.ensures.after (omega arith) c.copy_from_slice.ensures.len)
