-- What an MTI means (document 01, "Messages"; 003 section 3.1.1; 001 section 4).
use Rattle.std.specs.Prelude.{ℕ, ◌+◌, Bool, true, false, cond, ◌||◌, List, [], ◌∷◌, eqb}
use Rattle.numbers.specs.Bits.{bit}
use Rattle.message.specs.declared.Kind.{Kind}
use Rattle.message.specs.declared.Kind.TheVariants.{InitializationComplete, EventReport, IdentifyConsumer, IdentifyProducer, ConsumerIdentified, ProducerIdentified, ConsumerRangeIdentified, ProducerRangeIdentified, IdentifyEvents, LearnEvent, Other}
use Rattle.message.specs.declared.Meaning.{Meaning}

-- 003 section 3.1.1: Address Present is bit 3, Event Present is bit 2.
abbrev pub addressed : ℕ → Bool
addressed m = eqb (bit 3 m) 1

abbrev pub carries_event : ℕ → Bool
carries_event m = eqb (bit 2 m) 1

-- Bytes: MTI 2; source Node ID 6; destination 6 if MTI bit 3 is set; Event ID 8 if bit 2 is set; then content.
abbrev pub event_at : ℕ → ℕ
event_at m = 8 + cond (addressed m) 6 0

abbrev pub content_at : ℕ → ℕ
content_at m = event_at m + cond (carries_event m) 8 0

-- Refusal 2: MTI bit 15 or 14 set, or 0F15, or 0F16.
abbrev pub barred : ℕ → Bool
barred m = eqb (bit 15 m) 1 || (eqb (bit 14 m) 1 || (eqb m 0x0F15 || eqb m 0x0F16))

-- ---- kinds

abbrev pub place : Kind → ℕ
place InitializationComplete = 0
place EventReport = 1
place IdentifyConsumer = 2
place IdentifyProducer = 3
place ConsumerIdentified = 4
place ProducerIdentified = 5
place ConsumerRangeIdentified = 6
place ProducerRangeIdentified = 7
place IdentifyEvents = 8
place LearnEvent = 9
place Other = 10

-- Whether two kinds are the same.
abbrev pub same_kind : Kind → Kind → Bool
same_kind a b = eqb (place a) (place b)

-- Initialization Complete.
abbrev pub is_restart : Kind → Bool
is_restart InitializationComplete = true
is_restart EventReport = false
is_restart IdentifyConsumer = false
is_restart IdentifyProducer = false
is_restart ConsumerIdentified = false
is_restart ProducerIdentified = false
is_restart ConsumerRangeIdentified = false
is_restart ProducerRangeIdentified = false
is_restart IdentifyEvents = false
is_restart LearnEvent = false
is_restart Other = false

abbrev pub is_report : Kind → Bool
is_report k = same_kind EventReport k

-- ---- the table

-- The table of messages: an MTI, its kind, and the least and the most content bytes.
pub record Row : Type 0 where
  pub mti : ℕ
  pub means : Meaning

abbrev pub meaning : Kind → ℕ → ℕ → Meaning
meaning kind least most = record { kind = kind; least = least; most = most }

abbrev row : ℕ → Kind → ℕ → ℕ → Row
row m kind least most = record { mti = m; means = meaning kind least most }

abbrev pub table : List Row
table =
    row 0x0100 InitializationComplete 6 6
    ∷ row 0x0110 InitializationComplete 6 6
    ∷ row 0x05B4 EventReport 0 0
    ∷ row 0x0F14 EventReport 1 256
    ∷ row 0x08F4 IdentifyConsumer 0 0
    ∷ row 0x0914 IdentifyProducer 0 0
    ∷ row 0x04C4 ConsumerIdentified 0 0
    ∷ row 0x04C5 ConsumerIdentified 0 0
    ∷ row 0x04C7 ConsumerIdentified 0 0
    ∷ row 0x0544 ProducerIdentified 0 0
    ∷ row 0x0545 ProducerIdentified 0 0
    ∷ row 0x0547 ProducerIdentified 0 0
    ∷ row 0x04A4 ConsumerRangeIdentified 0 0
    ∷ row 0x0524 ProducerRangeIdentified 0 0
    ∷ row 0x0970 IdentifyEvents 0 0
    ∷ row 0x0968 IdentifyEvents 0 0
    ∷ row 0x0594 LearnEvent 0 0
    ∷ []

-- Any other MTI is "other", with 0 to 72 content bytes.
abbrev pub other : Meaning
other = meaning Other 0 72

abbrev pub lookup : List Row → ℕ → Meaning
lookup [] m = other
lookup (r ∷ rs) m = cond (eqb m r.mti) r.means (lookup rs m)

unfoldable pub meaning_of : ℕ → Meaning
meaning_of m = lookup table m

abbrev pub kind_of : ℕ → Kind
kind_of m = (meaning_of m).kind

-- ---- the table read by kind

-- The MTIs of a kind; "other" is every MTI that is in no row.
unfoldable pub mtis_of : Kind → List ℕ
mtis_of InitializationComplete = 0x0100 ∷ 0x0110 ∷ []
mtis_of EventReport = 0x05B4 ∷ 0x0F14 ∷ []
mtis_of IdentifyConsumer = 0x08F4 ∷ []
mtis_of IdentifyProducer = 0x0914 ∷ []
mtis_of ConsumerIdentified = 0x04C4 ∷ 0x04C5 ∷ 0x04C7 ∷ []
mtis_of ProducerIdentified = 0x0544 ∷ 0x0545 ∷ 0x0547 ∷ []
mtis_of ConsumerRangeIdentified = 0x04A4 ∷ []
mtis_of ProducerRangeIdentified = 0x0524 ∷ []
mtis_of IdentifyEvents = 0x0970 ∷ 0x0968 ∷ []
mtis_of LearnEvent = 0x0594 ∷ []
mtis_of Other = []

-- One of a list of MTIs.
abbrev pub one_of : List ℕ → ℕ → Bool
one_of [] m = false
one_of (k ∷ ks) m = eqb m k || one_of ks m

-- An MTI that has a row.
abbrev pub known : List Row → ℕ → Bool
known [] m = false
known (r ∷ rs) m = eqb m r.mti || known rs m
