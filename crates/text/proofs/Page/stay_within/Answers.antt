use native.Mathlib.Omega.{arith}
use Rattle.text.proofs.Laws.{wrote_none}
use Rattle.text.proofs.Page.stay_within.Goals as goal

pub returns : goal.returns
returns c = wrote_none c.args.self.now (omega arith)
