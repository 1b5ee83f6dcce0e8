-- What writing a message answers, and the output that it leaves (document 01, "Refusal numbers"; order of refusals when writing).
use Rattle.std.specs.Prelude.{ℕ, Bool, List, [], ◌∷◌, ◌++◌, ltb, length, drop, Result, Ok, Err}
use Rattle.message.specs.declared.Message.{Message}
use Rattle.message.specs.Mti.{barred}
use Rattle.message.specs.Messages.{message_bytes, content_tests}
use Rattle.basics.specs.Refusals.{Test, refuse, first_of, answered, Told, told_by}

-- Refusal 6: the output is shorter than what must be written.
abbrev pub no_room : Message → List ℕ → List ℕ → Bool
no_room m content out = ltb (length out) (length (message_bytes m content))

-- Writing: 2, 3, 4, 5, 6.
abbrev pub write_tests : Message → List ℕ → List ℕ → List Test
write_tests m content out = refuse 2 (barred m.mti) ∷ (content_tests m content ++ (refuse 6 (no_room m content out) ∷ []))

-- What writing a message tells: 0 and how many bytes were written, or the refusal's number and nothing beside it.
unfoldable pub write_told : Message → List ℕ → List ℕ → Told (List ℕ)
write_told m content out = told_by (write_tests m content out) (length (message_bytes m content))

-- The one answer that tells so.
unfoldable pub write_of : Message → List ℕ → List ℕ → Result ℕ ℕ
write_of m content out = answered Ok Err (first_of (write_tests m content out)) (length (message_bytes m content))

-- The output once a message's own bytes stand in it, from its first byte on.
abbrev pub overwritten : List ℕ → List ℕ → List ℕ
overwritten out bytes = bytes ++ drop (length bytes) out

-- After an accepted write only the message's own bytes differ; a refusal leaves the output as it was.
unfoldable pub out_after : Message → List ℕ → List ℕ → List ℕ
out_after m content out = answered (overwritten out) (λ _. out) (first_of (write_tests m content out)) (message_bytes m content)
