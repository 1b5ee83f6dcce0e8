-- What a board writes (document 01, "Node"; 001 sections 5 and 6).
use Rattle.std.specs.Prelude.{ℕ, ◌^◌, ◌<◌, ◌≡◌, true, false, cond, List, [], ◌∷◌, ◌++◌, eqb, Some, None}
use Rattle.numbers.specs.Numbers.{bytes_of}
use Rattle.message.specs.declared.Message.{Message}
use Rattle.message.specs.Mti.{addressed, carries_event, barred, is_restart, meaning_of, kind_of}
use Rattle.message.specs.Messages.{message_bytes}
use Rattle.node_rules.specs.Boards.{Slots, Board, valid, invalid, role_of, event_of, status_of, advertise}
use Rattle.message.specs.Saying.{producer}

-- ---- messages

-- Initialization Complete.
abbrev pub complete_by : ℕ → Message
complete_by id = record { mti = 0x0100; source = id; destination = None; event = None }

abbrev pub with_event : ℕ → ℕ → ℕ → Message
with_event mti id event = record { mti = mti; source = id; destination = None; event = Some event }

-- The event report that a slot produces.
abbrev pub report : Board → ℕ → Message
report b i = with_event 0x05B4 b.node.id (event_of b.slots i)

abbrev pub by_status : ℕ → ℕ → ℕ → ℕ → ℕ
by_status status v i u = cond (eqb status valid) v (cond (eqb status invalid) i u)

-- Producer Identified and Consumer Identified: valid, invalid, unknown.
unfoldable pub identified_mti : ℕ → ℕ → ℕ
identified_mti role status = cond (eqb role producer) (by_status status 0x0544 0x0545 0x0547) (by_status status 0x04C4 0x04C5 0x04C7)

-- A slot's Identified message with its status.
abbrev pub identified : Board → ℕ → Message
identified b i = with_event (identified_mti (role_of b.slots i) (status_of b.slots i)) b.node.id (event_of b.slots i)

-- Initialization Complete has its source as content, the others have none.
abbrev pub content_of : Message → List ℕ
content_of m = cond (is_restart (kind_of m.mti)) (bytes_of 6 m.source) []

abbrev pub whole_bytes : Message → List ℕ
whole_bytes m = message_bytes m (content_of m)

-- An MTI of a message that has an event and nothing else.
pub record Plain (mti : ℕ) : Type 0 where
  pub small : mti < 2 ^ 16
  pub free : barred mti ≡ false
  pub global : addressed mti ≡ false
  pub event : carries_event mti ≡ true
  pub least : (meaning_of mti).least ≡ 0
  pub most : (meaning_of mti).most ≡ 0
  pub other : is_restart (kind_of mti) ≡ false

-- Several messages follow one another without a gap.
abbrev pub all_bytes : List Message → List ℕ
all_bytes [] = []
all_bytes (m ∷ ms) = whole_bytes m ++ all_bytes ms

-- ---- what answering does

abbrev pub identifying : Board → List ℕ → List Message
identifying b [] = []
identifying b (i ∷ is) = identified b i ∷ identifying b is

-- Each reply advertises as Announce does.
abbrev pub advertising : Slots → List ℕ → Slots
advertising s [] = s
advertising s (i ∷ is) = advertising (advertise s i) is
