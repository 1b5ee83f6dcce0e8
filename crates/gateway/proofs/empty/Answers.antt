-- No line before place 0, no number and no size, and no bit in 0.
use mathlib.Core.List.{[]}
use Rattle.index_rules.specs.Index.{index_of}
use Rattle.gateway.specs.State.{gate_in}
use Rattle.basics.specs.Lists.{each}
use Rattle.gateway.proofs.Bits.{no_bit}
use Rattle.index_rules.proofs.SizeSets.{nothing_occurs}
use Rattle.gateway.proofs.empty.Goals as goal

pub returns : goal.returns
unfolding gate_in each index_of
returns c = λ i. record {
  gate = record { ports = c.args.ports; automatic = c.block_of.ensures i; lines = []; marked = λ p. no_bit p i };
  index = record { order = []; sets = nothing_occurs i };
}
