-- Sequences of calls, and what they gave (document 01, "Node": "Demand 2's rule on reports").
use Rattle.std.specs.Prelude.{ℕ, zero, suc, ◌+◌, ◌^◌, ◌<◌, ◌≡◌, Bool, true, false, cond, ◌&&◌, List, [], ◌∷◌, ◌++◌, eqb, length, take, drop, Option, Some, None}
use Rattle.basics.specs.Since.{Since}
use Rattle.basics.specs.Lists.{any}
use Rattle.message.specs.declared.Kind.{Kind}
use Rattle.message.specs.declared.Kind.TheVariants.{ProducerIdentified}
use Rattle.message.specs.declared.Message.{Message}
use Rattle.message.specs.Mti.{same_kind, kind_of, meaning_of, content_at}
use Rattle.message.specs.Reading.{mti_in, read_told}
use Rattle.message.specs.Writing.{overwritten}
use Rattle.node_rules.specs.declared.Call.{Call}
use Rattle.node_rules.specs.declared.Call.TheVariants.{Initialise, Announce, Produce, SetStatus, Receive}
use Rattle.node_rules.specs.Boards.{Board, not_initialized, unadvertised, event_of, mark_of}
use Rattle.node_rules.specs.Sending.{all_bytes}
use Rattle.node_rules.specs.Calls.{Outcome, outcome}

-- A call, with what was lent to it: the bytes that were received and the output.
pub record Made : Type 0 where
  pub call : Call
  pub bytes : List ℕ
  pub out : List ℕ

abbrev pub given_by : Board → Made → Outcome
given_by b c = outcome b c.call c.bytes (length c.out)

-- The output after a call: what is written stands at its start.
abbrev pub out_after : List ℕ → Outcome → List ℕ
out_after out o = overwritten out (all_bytes o.sent)

-- ---- what an onlooker sees

-- A call, its refusal or 0, and the bytes that it gave.
pub record Done : Type 0 where
  pub call : Call
  pub refusal : ℕ
  pub bytes : List ℕ

abbrev pub done_by : Made → Outcome → Done
done_by c o = record { call = c.call; refusal = o.refusal; bytes = take (length (all_bytes o.sent)) (out_after c.out o) }

abbrev pub done : Board → Made → Done
done b c = done_by c (given_by b c)

-- The board after calls, refused ones among them, the oldest first.
abbrev pub after : Board → List Made → Board
after b [] = b
after b (c ∷ cs) = after (given_by b c).next cs

abbrev pub log : Board → List Made → List Done
log b [] = []
log b (c ∷ cs) = done b c ∷ log (given_by b c).next cs

-- ---- what was written, read from the bytes

-- Where the first message of some bytes ends, if its content has one length only, as all that a board writes.
abbrev pub first_end : List ℕ → ℕ
first_end s = content_at (mti_in s) + (meaning_of (mti_in s)).least

-- At most n messages, one after another.
unfoldable pub messages_up_to : ℕ → List ℕ → List Message
messages_up_to zero s = []
messages_up_to (suc n) s = cond (eqb (length s) 0) [] ((read_told (take (first_end s) s)).value ++ messages_up_to n (drop (first_end s) s))

abbrev pub messages_in : List ℕ → List Message
messages_in s = messages_up_to (length s) s

abbrev pub is_of : ℕ → Option ℕ → Bool
is_of e (Some x) = eqb x e
is_of e None = false

-- A message of a kind for an event was written.
abbrev pub wrote : Kind → ℕ → Done → Bool
wrote k e d = any (λ m. same_kind k (kind_of m.mti) && is_of e m.event) (messages_in d.bytes)

-- ---- demand 2's rule

-- A new node: not Initialized and with no Advertised slot. Event IDs are 64-bit numbers.
pub record New (b : Board) : Type 0 where
  pub fresh : b.node.state ≡ not_initialized
  pub unmarked : (i : ℕ) → mark_of b.slots i ≡ unadvertised
  pub fit : (i : ℕ) → event_of b.slots i < 2 ^ 64

abbrev pub is_initialise : Call → Bool
is_initialise Initialise = true
is_initialise (Announce slot) = false
is_initialise (Produce slot) = false
is_initialise (SetStatus slot status) = false
is_initialise Receive = false

-- An accepted initialisation.
abbrev pub restarts : Done → Bool
restarts d = is_initialise d.call && eqb d.refusal 0

-- A Producer Identified message for the event was written, and no initialisation was accepted after it.
unfoldable pub IdentifiedSince : ℕ → List Done → Type 0
IdentifiedSince e h = Since (λ _ d. wrote ProducerIdentified e d ≡ true) (λ d. restarts d ≡ true) h
