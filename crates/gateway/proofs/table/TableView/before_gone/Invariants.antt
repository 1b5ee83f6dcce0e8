use mathlib.Core.Path.{◌≡◌}
use mathlib.Core.Bool.{false}
use Rattle.basics.specs.Lists.{any}
use Rattle.gateway.specs.State.{lists_of, lines_in}
use Rattle.gateway.specs.Answers.{goes_by}
use Rattle.gateway.specs.Lent.{state_seen}
use Rattle.gateway.proofs.table.TableView.before_gone.Given as goal

-- None of the lines before place i goes.
abbrev pub invariant-loop-i : goal.invariant-loop-i
invariant-loop-i l = any (goes_by l.gone) (lines_in l.i (lists_of (state_seen l.self))) ≡ false
