-- What is shown of a step of a frame file.
use Rattle.std.specs.Prelude.{ℕ, ◌+◌, cond, List, [], replicate}
use Rattle.basics.specs.Lists.{first_or}
use Rattle.basics.specs.Refusals.{first_of, answered}
use Rattle.message.specs.declared.Message.{Message}
use Rattle.message.specs.Messages.{message_bytes}
use Rattle.can_rules.specs.Frames.{frame_at, all_bytes}
use Rattle.can_rules.specs.Aliases.{Aliases}
use Rattle.can_rules.specs.Joining.{Begun, Handed, Outcome, join}
use Rattle.can_rules.specs.Splitting.{split_of, split_tests}
use Rattle.framing.specs.Files.{joins, message_at, content_at, room_at}

-- The refusal or 0, the bytes, and the joining state after it.
pub record Shown : Type 0 where
  pub refusal : ℕ
  pub bytes : List ℕ
  pub next : List Begun

-- The message that is handed out, of which there is one at most, as it is written on any other leg.
abbrev pub handed_bytes : List Handed → List ℕ
handed_bytes hs = first_or [] (λ h. message_bytes h.message h.payload) hs

abbrev pub shown_join : Outcome → Shown
shown_join o = record { refusal = o.refusal; bytes = handed_bytes o.handed; next = o.next }

-- The frames of a message that is split with so much room; what stands in the output before does not matter.
unfoldable pub shown_split : Aliases → List Begun → Message → List ℕ → ℕ → Shown
shown_split l b m content room =
    let refusal = first_of (split_tests l m content (replicate room 0)) in
    record { refusal = refusal; bytes = answered (λ bytes. bytes) (λ _. []) refusal (all_bytes (split_of l m content)); next = b }

unfoldable pub shown_at : Aliases → List Begun → List ℕ → ℕ → Shown
shown_at l b s at =
    cond (joins s at) (shown_join (join l b (frame_at s (at + 1)))) (shown_split l b (message_at s at) (content_at s at) (room_at s at))
