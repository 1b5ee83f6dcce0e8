-- Entries, and what is printed of them: what the examples by computation are written with.
use Prim.Native.Nat.{ℕ}
use mathlib.Core.Bool.{cond}
use mathlib.Core.List.{List, [], ◌∷◌, ◌++◌}
use lib.ListN.{length}
use Rattle.std.specs.Prelude.{Option, None}
use Rattle.numbers.specs.Numbers.{bytes_of}
use Rattle.gateway_rules.specs.State.{Gate}
use Rattle.gateway_rules.specs.Step.{step}
use Rattle.gateway_rules.specs.History.{Entry, Heard}

abbrev pub entry : ℕ → List ℕ → Entry
entry port bytes = record { port = port; bytes = bytes }

abbrev pub with_event : ℕ → ℕ → ℕ → List ℕ
with_event mti source event = bytes_of 2 mti ++ (bytes_of 6 source ++ bytes_of 8 event)

abbrev pub initialized : ℕ → List ℕ
initialized node = bytes_of 2 0x0100 ++ (bytes_of 6 node ++ bytes_of 6 node)

-- A message heard at a port, with an event or without.
abbrev pub said : ℕ → ℕ → ℕ → Option ℕ → Heard
said port mti node event = record { port = port; message = record { mti = mti; source = node; destination = None; event = event } }

-- What is printed of an entry: the refusal, a digit for each of four ports, and the lines in the table.
pub record Printed : Type 0 where
  pub refusal : ℕ
  pub digits : List ℕ
  pub lines : ℕ

abbrev pub printed : Gate → List Entry → List Printed
printed g [] = []
printed g (e ∷ h) =
    let o = step g e.port e.bytes in
    record {
      refusal = o.refusal;
      digits = cond (o.to 0) 1 0 ∷ cond (o.to 1) 1 0 ∷ cond (o.to 2) 1 0 ∷ cond (o.to 3) 1 0 ∷ [];
      lines = length o.next.lines;
    } ∷ printed o.next h

abbrev pub row : ℕ → ℕ → ℕ → ℕ → ℕ → ℕ → Printed
row refusal a b c d lines = record { refusal = refusal; digits = a ∷ b ∷ c ∷ d ∷ []; lines = lines }
