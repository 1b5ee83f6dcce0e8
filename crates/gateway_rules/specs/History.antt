-- Histories: accepted messages, live announcements and opened ports (document 01, "Gateway": "For demand 3"; document 02, W2 and W4).
use Rattle.std.specs.Prelude.{ℕ, ◌≤◌, ◌≡◌, ◌⊎◌, Bool, true, false, cond, not, List, [], ◌∷◌, ◌++◌, map, eqb, ltb, length}
use Rattle.basics.specs.Refusals.{Told}
use Rattle.basics.specs.Since.{Since}
use Rattle.range.specs.declared.Block.{Block}
use Rattle.range.specs.Range.{in_block}
use Rattle.message.specs.declared.Message.{Message}
use Rattle.message.specs.declared.Saying.{Saying}
use Rattle.message.specs.declared.Saying.TheVariants.{Report, Announcement, Restart, Inquiry, InquiryForAll, Learn, Nothing}
use Rattle.message.specs.Reading.{message_in, read_told}
use Rattle.message.specs.Saying.{said_by}
use Rattle.gateway_rules.specs.declared.Line.{Line}
use Rattle.gateway_rules.specs.State.{Gate, full}
use Rattle.gateway_rules.specs.Step.{line, covered, holds_some, taken, step}
use Rattle.basics.specs.Lists.{Among, without}

-- A history is a list of (port, bytes), refused ones among them, the oldest first.
pub record Entry : Type 0 where
  pub port : ℕ
  pub bytes : List ℕ

-- The state that a history leaves.
abbrev pub after : Gate → List Entry → Gate
after g [] = g
after g (e ∷ h) = after (step g e.port e.bytes).next h

-- ---- the accepted messages, without the table

pub record Heard : Type 0 where
  pub port : ℕ
  pub message : Message

-- What reading tells at a port: the message, or nothing beside a refusal.
abbrev pub heard_at : ℕ → Told (List Message) → List Heard
heard_at q t = map (λ m. record { port = q; message = m }) t.value

-- A message is accepted where its port is below the port count and its bytes are read.
abbrev pub heard_of : ℕ → Entry → List Heard
heard_of ports e = cond (ltb e.port ports) (heard_at e.port (read_told e.bytes)) []

unfoldable pub accepted : ℕ → List Entry → List Heard
accepted ports [] = []
accepted ports (e ∷ h) = heard_of ports e ++ accepted ports h

-- An entry heard: the message that its bytes hold, at its port.
abbrev pub as_heard : Entry → Heard
as_heard e = record { port = e.port; message = message_in e.bytes }

-- ---- what a message says

pub record Announces (p n : ℕ) (b : Block) (s : Heard) : Type 0 where
  pub here : s.port ≡ p
  pub sender : s.message.source ≡ n
  pub says : said_by s.message ≡ Announcement b

-- At whichever port (document 02, W2).
pub record Restarts (n : ℕ) (s : Heard) : Type 0 where
  pub node : s.message.source ≡ n
  pub says : said_by s.message ≡ Restart

-- ---- since

-- What ends an announcement of n at p: that node restarts, at any port (document 02, W2).
abbrev pub Ends : ℕ → ℕ → Heard → Type 0
Ends p n s = Restarts n s

-- An announcement is live from when it is accepted until it is ended.
unfoldable pub Live : List Heard → ℕ → ℕ → Block → Type 0
Live h p n b = Since (λ _ s. Announces p n b s) (Ends p n) h

-- ---- opened by a full table

-- The state that accepted messages have left, by the steps.
abbrev pub left_by : Gate → List Heard → Gate
left_by g [] = g
left_by g (s ∷ h) = left_by (taken g s.port s.message) h

-- An announcement at p that is new, neither inside a line of that port and node nor holding one, meets a full table (document 02, W4).
pub record Overflows (g : Gate) (p : ℕ) (before : List Heard) (s : Heard) : Type 0 where
  pub node : ℕ
  pub block : Block
  pub announces : Announces p node block s
  pub not_inside : covered (left_by g before).lines (line p node block) ≡ false
  pub holds_none : holds_some (left_by g before).lines (line p node block) ≡ false
  pub met : length (left_by g before).lines ≡ full

unfoldable pub Opened : Gate → List Heard → ℕ → Type 0
Opened g h p = Since (Overflows g p) (λ _. ⊥) h

-- ---- what the table and the marks say of the accepted messages

-- A live announcement is inside a line or its port was opened, a line is live, the marks are the opened ports, and there are at most 256 lines.
pub record Holds (start g : Gate) (h : List Heard) : Type 0 where
  pub live_lines : (p n : ℕ) (b : Block) → Live h p n b → (covered g.lines (line p n b) ≡ true) ⊎ Opened start h p
  pub lines_live : (l : Line) → Among l g.lines → Live h l.port l.node l.block
  pub opened_marks : (p : ℕ) → Opened start h p → g.marked p ≡ true
  pub marks_opened : (p : ℕ) → g.marked p ≡ true → Opened start h p
  pub few : length g.lines ≤ full

-- ---- demand 3

-- A report of an event.
pub record Reports (e : ℕ) (m : Message) : Type 0 where
  pub says : said_by m ≡ Report e

-- Its event is not automatic, no live announcement at the port holds it, and the port was never opened by a full table.
pub record HeldBack (g : Gate) (h : List Heard) (p e : ℕ) : Type 0 where
  pub not_automatic : in_block g.automatic e ≡ false
  pub not_live : (n : ℕ) (b : Block) → Live h p n b → in_block b e ≡ true → ⊥
  pub not_opened : Opened g h p → ⊥

-- ---- sharing

-- What can change which announcements are live at a port: an announcement, where it came in there, and an Initialization Complete at any port.
abbrev pub touches : Bool → Saying → Bool
touches here (Announcement b) = here
touches here Restart = true
touches here (Report e) = false
touches here (Inquiry role e) = false
touches here (InquiryForAll destination) = false
touches here (Learn e) = false
touches here Nothing = false

-- Announcements and Initialization Completes, which touch the port that they came in by.
abbrev pub changing : Saying → Bool
changing saying = touches true saying

-- The announcements at p and the Initialization Completes of all ports (document 02, W2).
abbrev pub concerns : ℕ → Heard → Bool
concerns p s = touches (eqb s.port p) (said_by s.message)

-- What a message says, and who says it: for an announcement the block, whichever MTI and number it was written with.
pub record Word : Type 0 where
  pub source : ℕ
  pub saying : Saying

abbrev pub word_of : Heard → Word
word_of s = record { source = s.message.source; saying = said_by s.message }

-- What the accepted ones of them say, in the same order.
unfoldable pub concerning : ℕ → List Heard → List Word
concerning p h = map word_of (without (λ s. not (concerns p s)) h)
