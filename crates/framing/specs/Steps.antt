-- What a part of the code promises of a step of a frame file, on an output of 512 bytes.
use Rattle.std.specs.Prelude.{ℕ, ◌≤◌, ◌≡◌, cond, false, List, [], Result, unwrap_or, eqb, length, take}
use Rattle.std.specs.Result.{result_unwrap_or, result_err}
use Rattle.basics.specs.Refusals.{first_of}
use Rattle.message.specs.Messages.{message_bytes, content_tests}
use Rattle.message.specs.Mti.{barred}
use Rattle.can_rules.specs.Aliases.{Aliases, listed}
use Rattle.can_rules.specs.Joining.{Begun, Handed}
use Rattle.can.specs.States.{state_of}
use Rattle.framing.specs.declared.calls.Leg.{Leg}
use Rattle.framing.specs.Shown.{Shown}

-- A message that writing does not refuse where there is room.
pub record Writable (h : Handed) : Type 0 where
  pub free : barred h.message.mti ≡ false
  pub good : first_of (content_tests h.message h.payload) ≡ 0
  pub few : length h.payload ≤ 256

-- What is written of it; MTI 0 is no message.
abbrev pub written_of : Handed → List ℕ
written_of h = cond (eqb h.message.mti 0) [] (message_bytes h.message h.payload)

-- A leg's list, and what senders have begun on it.
abbrev pub aliases_on : Leg → Aliases
aliases_on leg = listed leg.aliases.now leg.nodes.now

abbrev pub begun_on : Leg → List Begun
begun_on leg = state_of leg.state

-- How many bytes a step wrote, or the refusal's number.
abbrev pub written_by : Result ℕ ℕ → ℕ
written_by done = result_unwrap_or done 0

abbrev pub refusal_of : Result ℕ ℕ → ℕ
refusal_of done = unwrap_or (result_err done) 0

-- The refusal, the bytes at the output's start, and the joining state after it.
pub record StepLeft (shown : Shown) (done : Result ℕ ℕ) (begun : List Begun) (out : List ℕ) : Type 0 where
  pub refusal : refusal_of done ≡ shown.refusal
  pub next : begun ≡ shown.next
  pub few : written_by done ≤ 512
  pub bytes : take (written_by done) out ≡ shown.bytes
