-- Each number and field stands where the step has it.
use Prim.Native.Nat.{◌+◌}
use Rattle.numbers.proofs.Laws.{number_at_below}
use Rattle.framing.specs.Files.{message_at}
use Rattle.framing.proofs.fields.message_at.Goals as goal

pub overflow_cast-result : goal.overflow_cast-result
overflow_cast-result c =
    record { fits = rw c.read_at.ensures (number_at_below c.args.file.now (c.args.at + 1) 2 (λ k. (c.type_inv.file k).fits)) }

pub returns : goal.returns
unfolding message_at
returns c =
    λ i. record { mti = c.read_at.ensures i; source = c.read_at-2.ensures i; destination = c.marked_at.ensures i; event = c.marked_at-2.ensures i }
