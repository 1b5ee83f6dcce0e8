use Prim.Native.Nat.{◌+◌, ◌-◌}
use mathlib.Core.Path.{ap, ◌∙◌}
use mathlib.Core.List.{List, ◌++◌}
use Prim.Native.Nat.{ℕ}
use lib.ListN.{take, drop}
use Rattle.numbers.proofs.Pasting.{part_back}
use Rattle.can.proofs.Written.{spelled_out, spelled_length}
use Rattle.can.proofs.splitting.put_frame.Goals as goal

pub returns : goal.returns
returns c =
    ap (λ (ys : List ℕ). take c.args.at c.args.out.now ++ (ys ++ drop (c.args.at + 13 - c.args.at) (drop c.args.at c.args.out.now))) c.fill_frame.ensures
    ∙ part_back c.args.at 13 c.args.out.now (spelled_out c.args.header c.args.size c.args.number) (spelled_length c.args.header c.args.size c.args.number)
