-- Joining frames (document 02, W3).
use Rattle.std.specs.Prelude.{ℕ, ◌+◌, Bool, true, false, cond, not, ◌&&◌, ◌||◌, List, [], ◌∷◌, ◌++◌, map, eqb, leb, ltb, length, Some, None}
use Rattle.numbers.specs.Numbers.{number_in}
use Rattle.basics.specs.Lists.{any, without}
use Rattle.basics.specs.Refusals.{Test, refuse, first_of, answered}
use Rattle.message.specs.declared.Message.{Message}
use Rattle.can_rules.specs.declared.Frame.{Frame}
use Rattle.can_rules.specs.declared.Part.{Part}
use Rattle.can_rules.specs.declared.Part.TheVariants.{Whole, Start, Middle, Last, OtherHeader}
use Rattle.can_rules.specs.Frames.{part_of, alias_in, bytes_in}
use Rattle.can_rules.specs.Aliases.{Aliases, bad_aliases, repeats, nobody, node_for}

-- ---- the joining state

-- What a sender has begun and not finished: its event, and its payload so far.
pub record Begun : Type 0 where
  pub sender : ℕ
  pub event : ℕ
  pub so_far : List ℕ

abbrev pub begun : ℕ → ℕ → List ℕ → Begun
begun n event so_far = record { sender = n; event = event; so_far = so_far }

-- The joining state is a list of these; joining follows two senders at once.
abbrev pub most_senders : ℕ
most_senders = 2

-- 001 section 4: up to 256 bytes of payload.
abbrev pub most_payload : ℕ
most_payload = 256

abbrev pub too_long : Begun → Bool
too_long b = ltb most_payload (length b.so_far)

-- More than two senders, a payload over 256 bytes, or a sender twice.
unfoldable pub bad_joining : List Begun → Bool
bad_joining s = ltb most_senders (length s) || (any too_long s || repeats (map (λ b. b.sender) s))

abbrev pub of_sender : ℕ → Begun → Bool
of_sender n b = eqb b.sender n

abbrev pub has_begun : ℕ → List Begun → Bool
has_begun n s = any (of_sender n) s

-- What a sender has begun, and what is left when it is dropped.
abbrev pub by : ℕ → List Begun → List Begun
by n s = without (λ b. not (of_sender n b)) s

abbrev pub dropped : ℕ → List Begun → List Begun
dropped n s = without (of_sender n) s

-- A sender's payload with more bytes.
abbrev pub longer : ℕ → List ℕ → Begun → Begun
longer n bytes b = cond (of_sender n b) (begun b.sender b.event (b.so_far ++ bytes)) b

-- ---- refusals

abbrev pub is_other : Part → Bool
is_other Whole = false
is_other Start = false
is_other Middle = false
is_other Last = false
is_other OtherHeader = true

abbrev pub starts : Part → Bool
starts Whole = false
starts Start = true
starts Middle = false
starts Last = false
starts OtherHeader = false

abbrev pub continues : Part → Bool
continues Whole = false
continues Start = false
continues Middle = true
continues Last = true
continues OtherHeader = false

-- Refusal 19: eight bytes, in the last frame one to eight.
abbrev pub wrong_length : Part → ℕ → Bool
wrong_length Whole n = not (eqb n 8)
wrong_length Start n = not (eqb n 8)
wrong_length Middle n = not (eqb n 8)
wrong_length Last n = eqb n 0 || ltb 8 n
wrong_length OtherHeader n = false

-- Refusal 18: this sender's payload would pass 256 bytes.
abbrev pub overflows : ℕ → List ℕ → Begun → Bool
overflows n bytes b = of_sender n b && ltb most_payload (length b.so_far + length bytes)

-- 16, 19, 17, 20, 18, of a part with so many bytes from a sender.
abbrev pub sender_tests : List Begun → ℕ → Part → ℕ → List ℕ → List Test
sender_tests s n part size bytes =
    refuse 16 (eqb n nobody)
    ∷ refuse 19 (wrong_length part size)
    ∷ refuse 17 (continues part && not (has_begun n s))
    ∷ refuse 20 (starts part && (not (has_begun n s) && leb most_senders (length s)))
    ∷ refuse 18 (continues part && any (overflows n bytes) s)
    ∷ []

unfoldable pub sender_of : Aliases → Frame → ℕ
sender_of l f = node_for l (alias_in f.header)

-- Joining takes 7, 29, 16, 19, 17, 20, 18.
abbrev pub join_tests : Aliases → List Begun → Frame → List Test
join_tests l s f =
    refuse 7 (bad_aliases l || bad_joining s)
    ∷ refuse 29 (is_other (part_of f))
    ∷ sender_tests s (sender_of l f) (part_of f) f.length (bytes_in f)

-- ---- what a frame does

-- A message that is handed out, with its payload.
pub record Handed : Type 0 where
  pub message : Message
  pub payload : List ℕ

-- An event report from a node.
abbrev pub report : ℕ → ℕ → ℕ → List ℕ → Handed
report mti n event payload = record { message = record { mti = mti; source = n; destination = None; event = Some event }; payload = payload }

abbrev pub finished : List ℕ → Begun → Handed
finished bytes b = report 0x0F14 b.sender b.event (b.so_far ++ bytes)

-- The refusal or 0, what is handed out, and the next joining state.
pub record Outcome : Type 0 where
  pub refusal : ℕ
  pub handed : List Handed
  pub next : List Begun

abbrev pub outcome : ℕ → List Handed → List Begun → Outcome
outcome k h s = record { refusal = k; handed = h; next = s }

-- A new 0F16 drops the sender's unfinished message; a 05B4 drops nothing.
abbrev pub joined : List Begun → ℕ → List ℕ → Part → Outcome
joined s n bytes Whole = outcome 0 (report 0x05B4 n (number_in bytes) [] ∷ []) s
joined s n bytes Start = outcome 0 [] (dropped n s ++ (begun n (number_in bytes) [] ∷ []))
joined s n bytes Middle = outcome 0 [] (map (longer n bytes) s)
joined s n bytes Last = outcome 0 (map (finished bytes) (by n s)) (dropped n s)
joined s n bytes OtherHeader = outcome 0 [] s

-- Refusal 18 drops the sender's unfinished message; it is the one refusal that changes the joining state.
abbrev pub refusing : List Begun → ℕ → ℕ → Outcome
refusing s n k = outcome k [] (cond (eqb k 18) (dropped n s) s)

-- What is answered to a frame by the number of its refusal.
abbrev pub settled : List Begun → ℕ → List ℕ → ℕ → Part → Outcome
settled s n bytes k part = answered (joined s n bytes) (refusing s n) k part

unfoldable pub join : Aliases → List Begun → Frame → Outcome
join l s f = settled s (sender_of l f) (bytes_in f) (first_of (join_tests l s f)) (part_of f)
