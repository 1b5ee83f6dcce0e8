-- The content is the source, so the message is written whole.
use Prim.Native.Nat.{ℕ}
use mathlib.Core.Path.{ap, ◌∙◌}
use mathlib.Core.List.{List}
use Rattle.message.specs.Writing.{out_after}
use Rattle.node_rules.specs.Sending.{complete_by}
use Rattle.node.proofs.Written.{complete_written}
use Rattle.node.proofs.writing.complete.Goals as goal

pub returns : goal.returns
returns c =
    let a = c.args in
    c.write-2.ensures.out_after
    ∙ ap (λ (s : List ℕ). out_after (complete_by a.id) s a.out.now) c.write.ensures
    ∙ complete_written a.id c.requires.id_value a.out.now c.requires.in_bounds
