-- Splitting an event report into frames (document 02, W3; 001 section 7).
use Rattle.std.specs.Prelude.{ℕ, zero, suc, ◌-◌, ◌/◌, Bool, cond, not, List, [], ◌∷◌, ◌++◌, eqb, ltb, length, take, drop}
use Rattle.basics.specs.Refusals.{Test, refuse, first_of, answered, Told, told_by}
use Rattle.message.specs.declared.Message.{Message}
use Rattle.message.specs.Mti.{barred, is_report, kind_of}
use Rattle.message.specs.Messages.{field_bytes, content_tests}
use Rattle.message.specs.Writing.{overwritten}
use Rattle.can_rules.specs.declared.Frame.{Frame}
use Rattle.can_rules.specs.declared.Part.TheVariants.{Whole, Start, Middle, Last}
use Rattle.can_rules.specs.Frames.{frame, all_bytes}
use Rattle.can_rules.specs.Aliases.{Aliases, bad_aliases, no_alias, alias_for}

-- ---- the frames

-- k frames of exactly eight bytes, and the rest in the last.
unfoldable pub pieces : ℕ → ℕ → List ℕ → List Frame
pieces alias zero bytes = frame Last alias bytes ∷ []
pieces alias (suc k) bytes = frame Middle alias (take 8 bytes) ∷ pieces alias k (drop 8 bytes)

-- As many of eight bytes as leave one to eight for the last: 0F15 while more than eight remain.
abbrev pub middles : List ℕ → ℕ
middles payload = (length payload - 1) / 8

-- Without payload one frame; with payload 0F16 with the Event ID, then the payload.
unfoldable pub frames_of : ℕ → Message → List ℕ → List Frame
frames_of alias m payload =
    cond (eqb m.mti 0x05B4)
    (frame Whole alias (field_bytes 8 m.event) ∷ [])
    (frame Start alias (field_bytes 8 m.event) ∷ pieces alias (middles payload) payload)

unfoldable pub split_of : Aliases → Message → List ℕ → List Frame
split_of l m payload = frames_of (alias_for l m.source) m payload

-- ---- refusals

-- 29: no event report.
abbrev pub no_report : Message → Bool
no_report m = not (is_report (kind_of m.mti))

-- All but room: 7, the writing refusals 2 to 5, 29, 16.
abbrev pub report_tests : Aliases → Message → List ℕ → List Test
report_tests l m payload =
    refuse 7 (bad_aliases l)
    ∷ refuse 2 (barred m.mti)
    ∷ (content_tests m payload ++ (refuse 29 (no_report m) ∷ refuse 16 (eqb (alias_for l m.source) no_alias) ∷ []))

-- Refusal 6: the output is shorter than what must be written.
abbrev pub no_room : Aliases → Message → List ℕ → List ℕ → Bool
no_room l m payload out = ltb (length out) (length (all_bytes (split_of l m payload)))

-- Splitting takes 7, 2, 3, 4, 5, 29, 16, 6.
abbrev pub split_tests : Aliases → Message → List ℕ → List ℕ → List Test
split_tests l m payload out = report_tests l m payload ++ (refuse 6 (no_room l m payload out) ∷ [])

-- ---- the answer and the output

unfoldable pub split_told : Aliases → Message → List ℕ → List ℕ → Told (List ℕ)
split_told l m payload out = told_by (split_tests l m payload out) (length (all_bytes (split_of l m payload)))

-- After a split only the frames' own bytes differ; a refusal leaves the output as it was.
unfoldable pub out_after_split : Aliases → Message → List ℕ → List ℕ → List ℕ
out_after_split l m payload out =
    answered (overwritten out) (λ _. out) (first_of (split_tests l m payload out)) (all_bytes (split_of l m payload))
