-- R1: the 13 ranges marked P in document 01, as one list with one claim.
use mathlib.Core.Path.{◌≡◌, refl}
use mathlib.Core.List.{map}
use Rattle.range.specs.Range.{bits_equal, run, block_of}
use Rattle.range.specs.Marked.{Row, row_of, marked}

-- Each marked number has the first and the last event of its row.
pub marked_ranges : map (λ (r : Row). row_of r.number) marked ≡ marked
unfolding marked row_of block_of run bits_equal
marked_ranges = refl
