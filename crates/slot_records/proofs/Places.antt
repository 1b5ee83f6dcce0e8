-- Slot i in the columns, within the 65 places and beyond them.
use Prim.Native.Nat.{ℕ, ◌≤◌, ◌<◌}
use mathlib.Core.Path.{◌≡◌}
use borrow.Author.Tests.{le-ltb, lt-ltb}
use Rattle.slot_records.specs.declared.Slot.{Slot}
use Rattle.slot_records.specs.declared.columns.Columns.{Columns}
use Rattle.slot_records.specs.Columns.{places, few, slot_at, back}

-- How many of the places so many slots use.
pub few_short : (n : ℕ) → n < places → few n ≡ n
few_short n l = rw (lt-ltb n places l)

pub few_long : (n : ℕ) → places ≤ n → few n ≡ places
few_long n far = rw (le-ltb n places far)

pub back_within : (c : Columns) (i : ℕ) (s : Slot) → i < places → slot_at c i ≡ back c i s
back_within c i s l = rw (lt-ltb i places l)

pub back_beyond : (c : Columns) (i : ℕ) (s : Slot) → places ≤ i → s ≡ back c i s
back_beyond c i s far = rw (le-ltb i places far)
