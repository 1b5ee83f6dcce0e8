-- The data are the bytes of their own number.
use Prim.Native.Nat.{◌+◌}
use lib.ListN.{get_or}
use mathlib.Core.Path.{ap, ◌∙◌}
use Rattle.numbers.specs.Numbers.{bytes_of}
use Rattle.numbers.proofs.Laws.{number_at_below}
use Rattle.can_rules.specs.Frames.{frame_at}
use Rattle.framing.proofs.Places.{data_bytes}
use borrow.Author.Rules.{rules}
use Rattle.framing.proofs.fields.frame_at.Goals as goal

pub overflow_cast-result : goal.overflow_cast-result
overflow_cast-result c =
    record { fits = rw c.read_at-2.ensures (number_at_below c.args.file.now c.args.at 4 (λ k. (c.type_inv.file k).fits)) }

pub returns : goal.returns
unfolding frame_at
returns c =
    let s = c.args.file.now in
    let eight = c.write.ensures ∙ ap (bytes_of 8) c.read_at.ensures ∙ data_bytes s (c.args.at + 5) (λ k. (c.type_inv.file k).fits) (search rules) in
    λ i. record { header = c.read_at-2.ensures i; length = get_or s (c.args.at + 4) 0; bytes = eight i }
