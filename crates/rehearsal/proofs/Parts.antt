-- The parts of a board file's text, one after another, are the text.
use Prim.Native.Nat.{ℕ, ◌+◌, ◌≤◌}
use mathlib.Core.Path.{◌≡◌}
use mathlib.Core.List.{List}
use native.Mathlib.Omega.{arith}
use lib.ListN.{length}
use Rattle.text.specs.Parts.{part_size, part_from, parts_from}
use Rattle.text.proofs.Parts.{part_within, parts_all}
use Rattle.rehearsal.specs.Lines.{text_of, longest, most_parts}
use Rattle.rehearsal.proofs.Longest.{text_length}

-- A full part of a board file's text ends within the longest.
pub full_part : (skip : ℕ) (s : List ℕ) {end : ℕ} → end ≡ length (part_from skip (text_of s)) → part_size ≤ end → skip + part_size ≤ longest
full_part skip s = part_within longest skip (text_of s) (text_length s)

-- The parts up to the first that is not full are the whole text of every board file, wherever 33 or more may be asked for.
pub parts_whole : (s : List ℕ) (n : ℕ) → most_parts ≤ n → parts_from n 0 (text_of s) ≡ text_of s
parts_whole s n h = parts_all n (text_of s) (omega (arith, text_length s, h))
