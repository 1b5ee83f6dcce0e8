-- The share that is held back (document 02, W7): "held back in tenths of a per cent of sent plus held back, to the nearest, halves up".
use Rattle.std.specs.Prelude.{ℕ, ◌+◌, ◌*◌, ◌/◌}

-- A thousand times held back in sent plus held back, and a half more, without what is over.
unfoldable pub tenths_of : ℕ → ℕ → ℕ
tenths_of sent held = (2000 * held + (sent + held)) / (2 * (sent + held))
