-- The code's joining state and answer, as the rules have them.
use Rattle.std.specs.Prelude.{ℕ, zero, suc, ◌≡◌, Bool, true, false, List, [], ◌∷◌, ◌++◌, get_or, replicate, Option, None, Some, Result, Ok, Err}
use Rattle.basics.specs.declared.Refusal.{Refusal}
use Rattle.basics.specs.Lists.{any, each, first_or}
use Rattle.basics.specs.Refusals.{first_of, refusal_number}
use Rattle.can_rules.specs.declared.Frame.{Frame}
use Rattle.can_rules.specs.declared.Part.{Part}
use Rattle.can_rules.specs.Frames.{bytes_in}
use Rattle.can_rules.specs.Joining.{Begun, begun, most_payload, sender_tests, Handed, report, Outcome, settled}
use Rattle.can.specs.declared.Gathered.{Gathered}
use Rattle.can.specs.declared.Joining.{Joining}
use Rattle.can.specs.declared.Joined.{Joined}
use Rattle.can.specs.declared.parts.Report.{Report}
use Rattle.can.specs.declared.state.Place.{Place}
use Rattle.can.specs.declared.state.Place.TheVariants.{First, Second}

-- The bytes in use; a length past the 256 has more of them than there is room for, and so is seen.
abbrev pub payload_of : Gathered → List ℕ
payload_of g = each g.length (λ i. get_or g.payload i 0)

abbrev pub begun_of : Gathered → Begun
begun_of g = begun g.sender g.event (payload_of g)

abbrev pub gathered_at : Joining → ℕ → Gathered
gathered_at j zero = j.first
gathered_at j (suc i) = j.second

-- The first `count` of the places: what stands in the others is no part of the state.
unfoldable pub state_of : Joining → List Begun
state_of j = each j.count (λ i. begun_of (gathered_at j i))

-- A sender's message with no bytes, and the state in which nobody has begun one: all zeros.
abbrev pub empty_of : ℕ → ℕ → Gathered
empty_of sender event = record { sender = sender; event = event; length = 0; payload = replicate most_payload 0 }

abbrev pub nothing_begun : Joining
nothing_begun = record { count = 0; first = empty_of 0 0; second = empty_of 0 0 }

-- ---- answers

-- What is handed out, in numbers, and nothing handed out: MTI 0 and zeros beside it (document 01, "Refusal numbers").
abbrev pub handed_in : ℕ → Gathered → Handed
handed_in mti g = report mti g.sender g.event (payload_of g)

abbrev pub silence : Handed
silence = report 0 0 0 []

pub record Seen : Type 0 where
  pub refusal : ℕ
  pub handed : Handed
  pub next : List Begun

abbrev pub seen_in : Joined → Seen
seen_in r = record { refusal = r.refusal; handed = handed_in r.mti r.message; next = state_of r.state }

-- The same of what the rules give, which hand out one message at most.
abbrev pub seen_of : Outcome → Seen
seen_of o = record { refusal = o.refusal; handed = first_or silence (λ h. h) o.handed; next = o.next }

-- A refusal but for 18 leaves the whole state as it was, what is no part of it too.
abbrev pub RefusalKeeps : Joining → Joined → Type 0
RefusalKeeps j r = (r.refusal ≡ 0 → ⊥) → (r.refusal ≡ 18 → ⊥) → r.state ≡ j

-- Where there is no payload, and so where nothing is handed out, all 256 of its bytes are zero.
abbrev pub NoPayloadIsZero : Joined → Type 0
NoPayloadIsZero r = r.message.length ≡ 0 → r.message.payload ≡ replicate most_payload 0

-- ---- what the parts of the code work on

-- What a place holds with more bytes.
abbrev pub with_more : Gathered → List ℕ → Begun
with_more g bytes = begun g.sender g.event (payload_of g ++ bytes)

abbrev pub place_number : Place → ℕ
place_number First = 0
place_number Second = 1

-- The one of a list that passes a test stands at a place.
pub data Only {A : Type 0} (test : A → Bool) : List A → ℕ → Type 0 where
  here : {x : A} {xs : List A} → test x ≡ true → any test xs ≡ false → Only test (x ∷ xs) 0
  later : {x : A} {xs : List A} {i : ℕ} → test x ≡ false → Only test xs i → Only test (x ∷ xs) (suc i)

-- What a frame is answered with, and the joining state that it leaves.
abbrev pub handed_by : Option Report → Handed
handed_by None = silence
handed_by (Some r) = handed_in r.mti r.message

abbrev pub seen_left : Result (Option Report) Refusal → Joining → Seen
seen_left (Ok r) j = record { refusal = 0; handed = handed_by r; next = state_of j }
seen_left (Err r) j = record { refusal = refusal_number r; handed = silence; next = state_of j }

-- What else is promised of them: what a refusal but for 18 keeps, and that a report without payload has none behind it.
abbrev pub Left : Joining → Result (Option Report) Refusal → Joining → Type 0
Left old (Ok None) new = Unit {0}
Left old (Ok (Some r)) new = r.message.length ≡ 0 → r.message.payload ≡ replicate most_payload 0
Left old (Err r) new = (refusal_number r ≡ 18 → ⊥) → new ≡ old

-- A frame of a known part from a sender, in a state in bounds.
abbrev pub part_seen : Joining → ℕ → Frame → Part → Seen
part_seen j n f part = seen_of (settled (state_of j) n (bytes_in f) (first_of (sender_tests (state_of j) n part f.length (bytes_in f))) part)
