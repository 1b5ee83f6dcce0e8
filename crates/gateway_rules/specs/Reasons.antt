-- Why a report is sent to a port or held back from it (document 02, W1, "Say why").
use Rattle.std.specs.Prelude.{ℕ, suc, ◌+◌, ◌≡◌, Bool, true, false, cond, ◌||◌, List, [], ◌∷◌, ◌++◌, eqb, leb, length}
use Rattle.range.specs.Range.{in_block}
use Rattle.message.specs.declared.Saying.{Saying}
use Rattle.message.specs.declared.Saying.TheVariants.{Report, Announcement, Restart, Inquiry, InquiryForAll, Learn, Nothing}
use Rattle.message.specs.Reading.{message_in, read_tests}
use Rattle.message.specs.Saying.{said_by}
use Rattle.basics.specs.Lists.{any, first_or}
use Rattle.basics.specs.Refusals.{Test, refuse, Told, told_by}
use Rattle.gateway_rules.specs.declared.Line.{Line}
use Rattle.gateway_rules.specs.declared.Holder.{Holder}
use Rattle.gateway_rules.specs.declared.Reason.{Reason}
use Rattle.gateway_rules.specs.declared.Reason.TheVariants.{ArrivalPort, AutomaticEvent, OpenPort, HeldBy, NothingHolds}
use Rattle.gateway_rules.specs.State.{Gate, out_of_bounds}
use Rattle.gateway_rules.specs.Step.{line_holds}
use Rattle.gateway_rules.specs.History.{Heard, Live, Opened, HeldBack}

-- ---- the reason

-- A line with its place.
abbrev pub holder : ℕ → Line → Holder
holder place l = record { place = place; node = l.node; block = l.block }

-- The first line in table order that is for p and holds the event, the first of the list being at a place; none where nothing holds it.
unfoldable pub first_holding : ℕ → ℕ → ℕ → List Line → List Holder
first_holding p e place [] = []
first_holding p e place (l ∷ lines) = cond (line_holds p e l) (holder place l ∷ []) (first_holding p e (suc place) lines)

abbrev pub by_line : List Holder → Reason
by_line found = first_or NothingHolds HeldBy found

-- It is the arrival port; the event is automatic; the port is open; a line holds the event; or nothing does. The first that applies counts.
unfoldable pub reason_for : Gate → ℕ → ℕ → ℕ → Reason
reason_for g q e p =
    cond (eqb p q) ArrivalPort (cond (in_block g.automatic e) AutomaticEvent (cond (g.marked p) OpenPort (by_line (first_holding p e 0 g.lines))))

-- The report is sent exactly when it is the second, third or fourth.
abbrev pub sends : Reason → Bool
sends ArrivalPort = false
sends AutomaticEvent = true
sends OpenPort = true
sends (HeldBy l) = true
sends NothingHolds = false

-- ---- document 02's number, 1 to 5 in that order, and for a line its place, Node ID and block

pub record Numbered : Type 0 where
  pub number : ℕ
  pub named : List Holder

abbrev pub reason_told : Reason → Numbered
reason_told ArrivalPort = record { number = 1; named = [] }
reason_told AutomaticEvent = record { number = 2; named = [] }
reason_told OpenPort = record { number = 3; named = [] }
reason_told (HeldBy l) = record { number = 4; named = l ∷ [] }
reason_told NothingHolds = record { number = 5; named = [] }

-- The number of the reason that is told; 0 beside a refusal.
abbrev pub number_in : Told (List Numbered) → ℕ
number_in t = first_or 0 (λ r. r.number) t.value

-- ---- asking the box

-- The event of a report; what is no report has none.
abbrev pub event_of : Saying → List ℕ
event_of (Report e) = e ∷ []
event_of (Announcement b) = []
event_of Restart = []
event_of (Inquiry role e) = []
event_of (InquiryForAll destination) = []
event_of (Learn e) = []
event_of Nothing = []

abbrev pub reported_in : List ℕ → List ℕ
reported_in bytes = event_of (said_by (message_in bytes))

-- Those of the gateway call in their order, 8 also for the asked port, then 15 when the message isn't an event report.
abbrev pub why_tests : Gate → ℕ → ℕ → List ℕ → List Test
why_tests g q p bytes =
    refuse 7 (out_of_bounds g) ∷ refuse 8 (leb g.ports q || leb g.ports p) ∷ (read_tests bytes ++ (refuse 15 (first_or true (λ _. false) (reported_in bytes)) ∷ []))

-- What the box tells of a report at q when it is asked for p: the refusal's number, or 0 and the reason.
unfoldable pub why_told : Gate → ℕ → ℕ → List ℕ → Told (List Numbered)
why_told g q p bytes = told_by (why_tests g q p bytes) (reason_told (reason_for g q (first_or 0 (λ e. e) (reported_in bytes)) p))

-- ---- what a reason says

-- Of the table: the line named is the first that is for p and holds the event, and is named by its place, the first of the list being at one, its Node ID and its block.
pub record FirstHolding (p e place : ℕ) (lines : List Line) (l : Holder) : Type 0 where
  pub before : List Line
  pub line : Line
  pub later : List Line
  pub table : lines ≡ before ++ (line ∷ later)
  pub none_before : any (line_holds p e) before ≡ false
  pub holds : line_holds p e line ≡ true
  pub at : l.place ≡ place + length before
  pub owner : l.node ≡ line.node
  pub block : l.block ≡ line.block

-- Of the boards, by the accepted messages alone: what each reason of a report that arrives at q says of port p.
abbrev pub TrueOf : Gate → List Heard → ℕ → ℕ → ℕ → Reason → Type 0
TrueOf start h q e p ArrivalPort = p ≡ q
TrueOf start h q e p AutomaticEvent = (p ≡ q → ⊥) × (in_block start.automatic e ≡ true)
TrueOf start h q e p OpenPort = (p ≡ q → ⊥) × (in_block start.automatic e ≡ false) × Opened start h p
TrueOf start h q e p (HeldBy l) =
    (p ≡ q → ⊥) × (in_block start.automatic e ≡ false) × (Opened start h p → ⊥) × Live h p l.node l.block × (in_block l.block e ≡ true)
TrueOf start h q e p NothingHolds = (p ≡ q → ⊥) × HeldBack start h p e
