use mathlib.Core.Path.{◌≡◌}
use lib.ListN.{length}
use Rattle.can_rules.specs.Aliases.{listed}
use Rattle.framing.specs.Files.{step_count}
use Rattle.framing.specs.Steps.{aliases_on, begun_on}
use Rattle.framing.proofs.Running.{Running}
use Rattle.framing.proofs.steps.put_lines.Given as goal

-- Each turn puts the line of one step in.
abbrev pub invariant-loop-k : goal.invariant-loop-k
invariant-loop-k l =
    Running (listed l.aliases l.nodes) l.file l.initial.page l.k l.at (begun_on l.leg) l.page
    × (aliases_on l.leg ≡ listed l.aliases l.nodes)
    × (l.count ≡ step_count l.file)
    × (length l.out ≡ 512)
