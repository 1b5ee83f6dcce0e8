-- Answers and messages without enums, as C has them.
use Rattle.std.specs.Prelude.{ℕ, cond, List, [], eqb, Option, Some, None}
use Rattle.basics.specs.Lists.{first_or}
use Rattle.basics.specs.Refusals.{Told}
use Rattle.message.specs.declared.Message.{Message}
use Rattle.message.specs.Mti.{content_at}
use Rattle.gateway_rules.specs.declared.Holder.{Holder}
use Rattle.gateway_rules.specs.Reasons.{Numbered, number_in}
use Rattle.c_face.specs.declared.flat.FlatNumber.{FlatNumber}
use Rattle.c_face.specs.declared.flat.FlatMessage.{FlatMessage}
use Rattle.c_face.specs.declared.flat.FlatReading.{FlatReading}
use Rattle.c_face.specs.declared.flat.FlatWriting.{FlatWriting}
use Rattle.c_face.specs.declared.reasons.FlatReason.{FlatReason}

-- ---- ranges

abbrev pub told_number : Told ℕ → FlatNumber
told_number t = record { refusal = t.refusal; number = t.value }

-- ---- messages

-- A field is there where its number is not 0.
abbrev pub has_field : Option ℕ → ℕ
has_field (Some x) = 1
has_field None = 0

abbrev pub field_value : Option ℕ → ℕ
field_value (Some x) = x
field_value None = 0

abbrev pub field_of : ℕ → ℕ → Option ℕ
field_of has x = cond (eqb has 0) None (Some x)

abbrev pub message_of : Message → FlatMessage
message_of m = record {
  mti = m.mti;
  source = m.source;
  has_destination = has_field m.destination;
  destination = field_value m.destination;
  has_event = has_field m.event;
  event = field_value m.event;
}

abbrev pub message_from : FlatMessage → Message
message_from f = record { mti = f.mti; source = f.source; destination = field_of f.has_destination f.destination; event = field_of f.has_event f.event }

abbrev pub no_message : FlatMessage
no_message = record { mti = 0; source = 0; has_destination = 0; destination = 0; has_event = 0; event = 0 }

-- What is told of reading and writing; beside a refusal every number is 0.
abbrev pub told_reading : Told (List Message) → FlatReading
told_reading t = record { refusal = t.refusal; message = first_or no_message message_of t.value; content_at = first_or 0 (λ m. content_at m.mti) t.value }

abbrev pub told_writing : Told (List ℕ) → FlatWriting
told_writing t = record { refusal = t.refusal; bytes = first_or 0 (λ n. n) t.value }

-- ---- the box

-- The line that a reason names, if there is one.
abbrev pub named_in : Told (List Numbered) → List Holder
named_in t = first_or [] (λ r. r.named) t.value

-- What is told of a reason; beside a refusal, and of a line where none is named, every number is 0.
abbrev pub told_reason : Told (List Numbered) → FlatReason
told_reason t = record {
  refusal = t.refusal;
  reason = number_in t;
  place = first_or 0 (λ l. l.place) (named_in t);
  node = first_or 0 (λ l. l.node) (named_in t);
  block = first_or (record { start = 0; k = 0 }) (λ l. l.block) (named_in t);
}
