-- What the box does with a message (document 01, "Gateway": "For a message accepted at port q", as document 02, W2 and W4, has it; order of refusals 7, 8, then reading).
use Rattle.std.specs.Prelude.{ℕ, ◌≡◌, ◌⊎◌, Bool, true, false, cond, not, ◌&&◌, ◌||◌, List, [], ◌∷◌, ◌++◌, eqb, leb, ltb, length}
use Rattle.range.specs.declared.Block.{Block}
use Rattle.range.specs.Range.{in_block, inside}
use Rattle.message.specs.declared.Message.{Message}
use Rattle.message.specs.declared.Saying.{Saying}
use Rattle.message.specs.declared.Saying.TheVariants.{Report, Announcement, Restart, Inquiry, InquiryForAll, Learn, Nothing}
use Rattle.message.specs.Reading.{message_in, read_tests}
use Rattle.message.specs.Saying.{said_by}
use Rattle.basics.specs.Refusals.{Test, refuse, first_of, answered}
use Rattle.gateway_rules.specs.declared.Line.{Line}
use Rattle.basics.specs.Lists.{any, without}
use Rattle.gateway_rules.specs.State.{Gate, full, bad_ports, out_of_bounds, start_of}

-- ---- lines

abbrev pub line : ℕ → ℕ → Block → Line
line port node block = record { port = port; node = node; block = block }

-- One line is inside another, or equal to it: of the same port and node, and its block inside the other's (document 02, W4).
abbrev pub within : Line → Line → Bool
within a b = eqb a.port b.port && (eqb a.node b.node && inside a.block b.block)

-- The lines that one holds.
abbrev pub held_by : Line → Line → Bool
held_by l x = within x l

-- A line is inside one of those there.
abbrev pub covered : List Line → Line → Bool
covered lines l = any (within l) lines

-- A line holds some of those there.
abbrev pub holds_some : List Line → Line → Bool
holds_some lines l = any (held_by l) lines

-- No line is inside another.
unfoldable pub unnested : List Line → Bool
unnested [] = true
unnested (l ∷ lines) = not (covered lines l || holds_some lines l) && unnested lines

-- What a message that is no restart does to the lines: they stay as they were, or what its node announces at its port, which was inside none of them, stands behind those that it does not hold.
abbrev pub Gained : ℕ → ℕ → Saying → List Line → List Line → Type 0
Gained port node saying lines later =
    (later ≡ lines)
    ⊎ ((b : Block) × (saying ≡ Announcement b) × (covered lines (line port node b) ≡ false) × (later ≡ without (held_by (line port node b)) lines ++ (line port node b ∷ [])))

-- The lines of a node, at whichever port; those of a port, of whichever node.
abbrev pub of_node : ℕ → Line → Bool
of_node n l = eqb l.node n

abbrev pub at_port : ℕ → Line → Bool
at_port p l = eqb l.port p

-- ---- how a message changes the state

abbrev pub with_lines : Gate → List Line → Gate
with_lines g lines = record { ports = g.ports; automatic = g.automatic; lines = lines; marked = g.marked }

abbrev pub opening : Gate → ℕ → Gate
opening g q = record { ports = g.ports; automatic = g.automatic; lines = g.lines; marked = λ p. eqb p q || g.marked p }

-- Added at the end.
abbrev pub adding : Gate → Line → Gate
adding g l = with_lines g (g.lines ++ (l ∷ []))

-- Those that it holds go, the others keep their order, and it stands at the end.
abbrev pub replacing : Gate → Line → Gate
replacing g l = with_lines g (without (held_by l) g.lines ++ (l ∷ []))

-- Under 256 lines: added at the end. Else q becomes open.
abbrev pub storing : Gate → Line → Gate
storing g l = cond (ltb (length g.lines) full) (adding g l) (opening g l.port)

-- Inside a line of the same port and node: no change. Else one that holds such lines replaces them, a full table or not (document 02, W4). Else as above.
unfoldable pub announce : Gate → Line → Gate
announce g l = cond (covered g.lines l) g (cond (holds_some g.lines l) (replacing g l) (storing g l))

-- Initialization Complete removes the source's lines at every port (document 02, W2), the rest keeping their order. An open mark stays.
abbrev pub restart : Gate → ℕ → Gate
restart g node = with_lines g (without (of_node node) g.lines)

-- An announcement and a restart change the state; nothing else does.
abbrev pub hear : Gate → ℕ → ℕ → Saying → Gate
hear g q node (Announcement b) = announce g (line q node b)
hear g q node Restart = restart g node
hear g q node (Report e) = g
hear g q node (Inquiry role e) = g
hear g q node (InquiryForAll destination) = g
hear g q node (Learn e) = g
hear g q node Nothing = g

unfoldable pub taken : Gate → ℕ → Message → Gate
taken g q m = hear g q m.source (said_by m)

-- ---- where a message goes

-- A line for p holds the event.
abbrev pub line_holds : ℕ → ℕ → Line → Bool
line_holds p e l = eqb l.port p && in_block l.block e

-- An event report goes where the automatic block holds the event, or p is open, or a line for p holds it.
unfoldable pub wants : Gate → ℕ → ℕ → Bool
wants g p e = in_block g.automatic e || (g.marked p || any (line_holds p e) g.lines)

-- Every other message goes to all ports but q.
abbrev pub wanted_at : Gate → ℕ → Saying → Bool
wanted_at g p (Report e) = wants g p e
wanted_at g p (Announcement b) = true
wanted_at g p Restart = true
wanted_at g p (Inquiry role e) = true
wanted_at g p (InquiryForAll destination) = true
wanted_at g p (Learn e) = true
wanted_at g p Nothing = true

unfoldable pub goes_to : Gate → ℕ → Message → ℕ → Bool
goes_to g q m p = ltb p g.ports && (not (eqb p q) && wanted_at g p (said_by m))

-- ---- the step

pub record Outcome : Type 0 where
  pub refusal : ℕ
  pub to : ℕ → Bool
  pub next : Gate

abbrev pub taking : Gate → ℕ → Message → Outcome
taking g q m = record { refusal = 0; to = goes_to g q m; next = taken g q m }

-- A refusal sends nothing and keeps the state.
abbrev pub refusing : Gate → ℕ → Outcome
refusing g n = record { refusal = n; to = λ _. false; next = g }

-- Gateway: 7, 8, then reading. Port not below the port count is 8.
abbrev pub step_tests : Gate → ℕ → List ℕ → List Test
step_tests g q bytes = refuse 7 (out_of_bounds g) ∷ refuse 8 (leb g.ports q) ∷ read_tests bytes

unfoldable pub step : Gate → ℕ → List ℕ → Outcome
step g q bytes = answered (taking g q) (refusing g) (first_of (step_tests g q bytes)) (message_in bytes)

-- At start, port count not 2 to 8 is 8, with the same state at 0 ports.
abbrev pub start_tests : ℕ → List Test
start_tests ports = refuse 8 (bad_ports ports) ∷ []

abbrev pub starting : ℕ → Gate → Outcome
starting n g = record { refusal = n; to = λ _. false; next = g }

unfoldable pub start : ℕ → ℕ → Outcome
start ports r = answered (starting 0) (λ n. starting n (start_of 0 r)) (first_of (start_tests ports)) (start_of ports r)
