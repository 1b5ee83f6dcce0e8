use Rattle.std.proofs.Common.{arith, ap, ◌∙◌}
use Rattle.can.specs.States.{begun_of}
use Rattle.can.proofs.Places.{begun_first, begun_second}
use Rattle.can.proofs.Joining.begin.Goals as goal
use Rattle.can.proofs.Joining.begin.Goals.{then-self-eq0, else-self-eq0}

pub returns : goal.returns
returns c =
    elim c.if-self-eq0.branch [
      | then-self-eq0 w ↦ let n = ap (λ s. s.count) w.self-is in begun_first c.args.self.now _ _ w.if-self-eq0.true (omega arith) (ap (λ s. begun_of s.first) w.self-is ∙ c.empty-new.ensures.result_value)
      | else-self-eq0 w ↦
          let n = ap (λ s. s.count) w.self-is in
          begun_second c.args.self.now _ _ (omega arith) (omega arith) (ap (λ s. s.first) w.self-is) (ap (λ s. begun_of s.second) w.self-is ∙ c.empty-new.ensures.result_value)
    ]
