use mathlib.Core.Path.{◌≡◌}
use Rattle.replay.specs.Files.{body_at}
use Rattle.replay.proofs.files.end.Given as goal

-- Each turn adds the length of one body.
abbrev pub invariant-loop-i : goal.invariant-loop-i
invariant-loop-i l = l.at ≡ body_at l.file l.i
