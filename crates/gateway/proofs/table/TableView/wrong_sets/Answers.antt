-- The sets made anew are compared with those given.
use Prim.Native.Nat.{ℕ}
use mathlib.Core.Path.{ap, ◌∙◌}
use mathlib.Core.Bool.{not}
use mathlib.Core.List.{List}
use Rattle.index_rules.specs.Agreeing.{same_numbers}
use Rattle.gateway.proofs.SameNumbers.{same_told}
use Rattle.gateway.proofs.table.TableView.wrong_sets.Goals as goal

pub returns : goal.returns
returns c =
    let given = c.args.self.now.sets.now in
    c.ne.ensures ∙ ap not (same_told given c.sets_of_lines-made.result ∙ ap (λ (made : List ℕ). same_numbers given made) c.sets_of_lines-made.ensures)
