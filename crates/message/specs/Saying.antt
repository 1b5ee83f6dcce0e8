-- What a message says to a box or to a board (document 01, "Gateway": "For a message accepted at port q"; "Node": "Receive").
use Rattle.std.specs.Prelude.{ℕ, Option, Some, None}
use Rattle.range.specs.Range.{single, block_of}
use Rattle.message.specs.declared.Kind.{Kind}
use Rattle.message.specs.declared.Kind.TheVariants.{InitializationComplete, EventReport, IdentifyConsumer, IdentifyProducer, ConsumerIdentified, ProducerIdentified, ConsumerRangeIdentified, ProducerRangeIdentified, IdentifyEvents, LearnEvent, Other}
use Rattle.message.specs.declared.Message.{Message}
use Rattle.message.specs.declared.Saying.{Saying}
use Rattle.message.specs.declared.Saying.TheVariants.{Report, Announcement, Restart, Inquiry, InquiryForAll, Learn, Nothing}
use Rattle.message.specs.Mti.{kind_of}

-- The two roles, in the numbers that stand for them.
abbrev pub producer : ℕ
producer = 0

abbrev pub consumer : ℕ
consumer = 1

-- What is said of an event. Both MTIs of a report flag one, and so do all others that say something of one; a message without it says nothing.
abbrev pub of_event : (ℕ → Saying) → Option ℕ → Saying
of_event says (Some e) = says e
of_event says None = Nothing

-- Consumer Identified announces its single event, Consumer Range Identified its block; Identify Events is for all or for its destination.
abbrev pub saying : Kind → Option ℕ → Option ℕ → Saying
saying EventReport event destination = of_event Report event
saying ConsumerIdentified event destination = of_event (λ e. Announcement (single e)) event
saying ConsumerRangeIdentified event destination = of_event (λ r. Announcement (block_of r)) event
saying InitializationComplete event destination = Restart
saying IdentifyProducer event destination = of_event (Inquiry producer) event
saying IdentifyConsumer event destination = of_event (Inquiry consumer) event
saying IdentifyEvents event destination = InquiryForAll destination
saying LearnEvent event destination = of_event Learn event
saying ProducerIdentified event destination = Nothing
saying ProducerRangeIdentified event destination = Nothing
saying Other event destination = Nothing

unfoldable pub said_by : Message → Saying
said_by m = saying (kind_of m.mti) m.event m.destination
