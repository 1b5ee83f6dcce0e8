use mathlib.Core.Path.{◌≡◌}
use lib.ListN.{take}
use Rattle.text.specs.Text.{wrote, hex_of}
use Rattle.text.proofs.Page.put_hex.Given as goal

abbrev pub invariant-loop-b : goal.invariant-loop-b
invariant-loop-b l = l.self ≡ wrote l.fn.self (hex_of (take l.b-index l.bytes))
