-- Calls, what each counts, and what a history of them leaves on the meters (document 02, W7).
use Rattle.std.specs.Prelude.{ℕ, ◌+◌, Bool, true, false, cond, not, ◌&&◌, ◌||◌, List, [], ◌∷◌, eqb, ltb}
use Rattle.message.specs.declared.Saying.{Saying}
use Rattle.message.specs.declared.Saying.TheVariants.{Report, Announcement, Restart, Inquiry, InquiryForAll, Learn, Nothing}
use Rattle.message.specs.Reading.{message_in}
use Rattle.message.specs.Saying.{said_by}
use Rattle.gateway_rules.specs.Step.{Outcome}
use Rattle.gateway_rules.specs.History.{Entry}
use Rattle.index_rules.specs.Boxes.{Box, box_step, box_next}
use Rattle.meter_rules.specs.Meters.{Meter, Meters, up, passes}

-- ---- a call

-- How many ports the box has, where the message came in, the refusal or 0, whether it is an event report, and where it is sent.
pub record Call : Type 0 where
  pub ports : ℕ
  pub port : ℕ
  pub refusal : ℕ
  pub report : Bool
  pub to : ℕ → Bool

abbrev pub is_report : Saying → Bool
is_report (Report e) = true
is_report (Announcement b) = false
is_report Restart = false
is_report (Inquiry role e) = false
is_report (InquiryForAll destination) = false
is_report (Learn e) = false
is_report Nothing = false

-- Bytes that hold an event report.
unfoldable pub report_in : List ℕ → Bool
report_in bytes = is_report (said_by (message_in bytes))

abbrev pub call_of : ℕ → ℕ → List ℕ → Outcome → Call
call_of ports q bytes o = record { ports = ports; port = q; refusal = o.refusal; report = report_in bytes; to = o.to }

-- ---- what it counts at a port

abbrev pub accepts : ℕ → Call → Bool
accepts p c = eqb c.refusal 0 && eqb c.port p

-- "A call refused with 7 or 8 is on no meter."
abbrev pub on_no_meter : ℕ → Bool
on_no_meter refusal = eqb refusal 7 || eqb refusal 8

abbrev pub refuses : ℕ → Call → Bool
refuses p c = not (eqb c.refusal 0 || on_no_meter c.refusal) && eqb c.port p

-- An event report that is accepted, at whichever port.
abbrev pub reports : Call → Bool
reports c = eqb c.refusal 0 && c.report

abbrev pub takes_in : ℕ → Call → Bool
takes_in p c = reports c && eqb c.port p

abbrev pub sends : ℕ → Call → Bool
sends p c = reports c && c.to p

-- From a port that is there, but for the one where it came in.
abbrev pub holds_back : ℕ → Call → Bool
holds_back p c = reports c && (ltb p c.ports && (not (eqb p c.port) && not (c.to p)))

abbrev pub meter_next : ℕ → Call → Meter → Meter
meter_next p c m = record {
  accepted = up (accepts p c) m.accepted;
  refused = up (refuses p c) m.refused;
  reports = up (takes_in p c) m.reports;
  sent = up (sends p c) m.sent;
  held = up (holds_back p c) m.held;
  marked =
      m.marked
      || (passes (accepts p c) m.accepted
      || (passes (refuses p c) m.refused || (passes (takes_in p c) m.reports || (passes (sends p c) m.sent || passes (holds_back p c) m.held))));
}

unfoldable pub meters_next : Call → Meters → Meters
meters_next c ms p = meter_next p c (ms p)

-- ---- histories

-- The calls of a history, on a box with its index.
abbrev pub calls : Box → List Entry → List Call
calls b [] = []
calls b (e ∷ h) = call_of b.gate.ports e.port e.bytes (box_step b e.port e.bytes) ∷ calls (box_next b e.port e.bytes) h

-- The meters that calls leave.
abbrev pub meters_after : Meters → List Call → Meters
meters_after ms [] = ms
meters_after ms (c ∷ cs) = meters_after (meters_next c ms) cs

-- How many of the calls did it.
abbrev pub how_many : (Call → Bool) → List Call → ℕ
how_many test [] = 0
how_many test (c ∷ cs) = cond (test c) 1 0 + how_many test cs
