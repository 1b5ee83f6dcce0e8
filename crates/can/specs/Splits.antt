-- Parts of splitting, as the code goes through them.
use Rattle.std.specs.Prelude.{ℕ, ◌+◌, ◌*◌, List, [], ◌∷◌, ◌++◌, ltb, length}
use Rattle.basics.specs.Refusals.{Test, refuse, first_of, answered, Told, told_by}
use Rattle.message.specs.declared.Message.{Message}
use Rattle.message.specs.Mti.{barred}
use Rattle.message.specs.Messages.{content_tests}
use Rattle.message.specs.Writing.{overwritten}
use Rattle.can_rules.specs.declared.Frame.{Frame}
use Rattle.can_rules.specs.Frames.{all_bytes}
use Rattle.can_rules.specs.Splitting.{pieces, middles, no_report}

-- What the message alone is tested for: 2 to 5, then 29.
abbrev pub message_tests : Message → List ℕ → List Test
message_tests m payload = refuse 2 (barred m.mti) ∷ (content_tests m payload ++ (refuse 29 (no_report m) ∷ []))

-- The frames of a report that passes every test but 6, or that refusal.
abbrev pub room_tests : List Frame → List ℕ → List Test
room_tests fs out = refuse 6 (ltb (length out) (length (all_bytes fs))) ∷ []

abbrev pub room_told : List Frame → List ℕ → Told (List ℕ)
room_told fs out = told_by (room_tests fs out) (length (all_bytes fs))

abbrev pub out_where_room : List Frame → List ℕ → List ℕ
out_where_room fs out = answered (overwritten out) (λ _. out) (first_of (room_tests fs out)) (all_bytes fs)

-- The bytes that are still to write of a payload, and how many they are.
abbrev pub to_do : ℕ → List ℕ → List ℕ
to_do alias payload = all_bytes (pieces alias (middles payload) payload)

abbrev pub room_for : List ℕ → ℕ
room_for payload = 13 + 13 * middles payload
