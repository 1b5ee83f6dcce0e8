use Prim.Native.Nat.{◌≤◌}
use mathlib.Core.Path.{◌≡◌}
use lib.ListN.{length}
use Rattle.gateway.specs.State.{lists_of, line_at}
use Rattle.gateway.specs.Answers.{goes_by}
use Rattle.gateway.specs.Lent.{state_in, SameBox, SameIndex}
use Rattle.gateway.proofs.Falling.{Fallen}
use Rattle.gateway.proofs.Kept.{Kept}
use Rattle.gateway.proofs.table.Table.take_out.Given as goal

-- What stays of the lines before the place stands at the first j places, from the first that goes on, and their numbers fall by as many as went.
abbrev pub invariant-loop-place : goal.invariant-loop-place
invariant-loop-place l = record {
  same : SameBox l.initial.self l.self;
  head : l.initial.self.head ≡ l.self.head;
  index : SameIndex (state_in l.initial.self) (state_in l.self);
  behind : l.j ≤ l.place;
  kept : Kept (goes_by l.gone) (lists_of (state_in l.initial.self)) (lists_of (state_in l.self)) l.place l.j;
  fallen : Fallen (λ p. goes_by l.gone (line_at (lists_of (state_in l.initial.self)) p)) l.falls l.place l.j;
  len : length l.falls ≡ 256;
}
