-- Bytes have digits.
use mathlib.Core.Path.{◌≡◌, refl, sym}
use mathlib.Core.Bool.{false, true≢false}
use Prim.Native.Nat.{ℕ}
use mathlib.Core.List.{List, [], ◌∷◌}
use lib.ListN.{length}
use Rattle.std.specs.Prelude.{◌==◌}
use Rattle.text.specs.Text.{hex_of, or_dash}
use Rattle.text.proofs.Page.put_hex_or_dash.Goals as goal

some_bytes : (s : List ℕ) → (length s == 0) ≡ false → or_dash (hex_of s) ≡ hex_of s
some_bytes [] h = absurd (true≢false h)
some_bytes (b ∷ s) h = refl

pub returns-else-is_empty : goal.returns-else-is_empty
returns-else-is_empty c = rw (some_bytes c.args.bytes.now (sym c.if-is_empty.ensures)) c.put_hex.ensures
