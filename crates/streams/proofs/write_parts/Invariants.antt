use Rattle.std.proofs.Common.{◌≡◌, List, ℕ, ◌≤◌, ◌<◌, ◌^◌, length, take, ◌*◌}
use Rattle.std.specs.Io.KnownBytes.{Appends}
use Rattle.text.specs.Parts.{part_size}
use Rattle.streams.specs.Parts.{GivesParts}
use Rattle.streams.proofs.write_parts.Given as goal

-- Of a text that comes in parts n full ones are written.
abbrev pub invariant-loop-n : goal.invariant-loop-n
invariant-loop-n g l =
    (length l.buffer ≡ part_size)
    × ((text : List ℕ) → length text < 2 ^ 64 → GivesParts (goal.F-post g l.part) text
    → (l.n * part_size ≤ length text) × Appends (g.W.Write.contents l.initial.out) (g.W.Write.contents l.out) (take (l.n * part_size) text))
