-- What is known of the lines is known of the one at a place.
use Prim.Native.Nat.{ℕ, ◌<◌}
use mathlib.Core.Path.{◌≡◌}
use mathlib.Core.List.{[], ◌∷◌}
use Rattle.gateway_rules.specs.declared.Line.{Line}
use Rattle.gateway.specs.declared.lines.Gone.{Gone}
use Rattle.gateway.specs.declared.lines.Gone.TheVariants.{OfNode, HeldBy}
use Rattle.gateway.specs.State.{Lists, line_at, lines_in}
use Rattle.gateway.specs.Answers.{Comparable}
use Rattle.gateway.proofs.Places.{block_at}

pub comparable_at : (gone : Gone) (n : ℕ) (t : Lists) (i : ℕ) → Comparable gone (lines_in n t) → i < n → {l : Line} → l ≡ line_at t i → Comparable gone (l ∷ [])
comparable_at (OfNode node) n t i c b e = tt
comparable_at (HeldBy holder) n t i c b e = (c.0, rw (block_at n t i c.1 b e))
