-- How often the replies to an inquiry name a role and an event (document 01, "Node": "one reply for each different role and Event ID").
use Rattle.std.specs.Prelude.{ℕ, ◌+◌, Bool, cond, not, ◌&&◌, List, [], ◌∷◌, eqb}
use Rattle.range.specs.Range.{in_block}
use Rattle.basics.specs.Sets.{any_below}
use Rattle.message.specs.declared.Kind.{Kind}
use Rattle.message.specs.declared.Kind.TheVariants.{ConsumerIdentified, ProducerIdentified}
use Rattle.message.specs.declared.Message.{Message}
use Rattle.message.specs.Mti.{same_kind, kind_of}
use Rattle.node_rules.specs.Boards.{Board, count, has_at}
use Rattle.message.specs.Saying.{producer}
use Rattle.node_rules.specs.Histories.{is_of}

abbrev pub how_many : {A : Type 0} → (A → Bool) → List A → ℕ
how_many test [] = 0
how_many test (x ∷ xs) = cond (test x) 1 0 + how_many test xs

-- Producer Identified or Consumer Identified for an event.
abbrev pub identified_kind : ℕ → Kind
identified_kind role = cond (eqb role producer) ProducerIdentified ConsumerIdentified

abbrev pub names : ℕ → ℕ → Message → Bool
names role e m = same_kind (identified_kind role) (kind_of m.mti) && is_of e m.event

-- Some slot has the role and the event.
abbrev pub some_slot : Board → ℕ → ℕ → Bool
some_slot b role e = any_below (count b.slots) (has_at b.slots.roles b.slots.events role e)

-- The event is outside the automatic block.
abbrev pub outside : Board → ℕ → Bool
outside b e = not (in_block b.node.automatic e)
