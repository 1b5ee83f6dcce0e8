-- What gives a text in parts.
use Rattle.std.specs.Prelude.{◌≡◌, ℕ, ◌<◌, ◌^◌, List, length}
use Rattle.std.specs.Borrow.{MutBor}
use Rattle.text.specs.Text.{laid_over}
use Rattle.text.specs.Parts.{part_size, part_from}

-- Each call, at a byte and a buffer of a part's size, puts the part from that byte on at the buffer's start and answers how long it is.
abbrev pub GivesParts : (ℕ → MutBor (List ℕ) → ℕ → MutBor (List ℕ) → Type 0) → List ℕ → Type 0
GivesParts post text =
    (skip : ℕ) (before : MutBor (List ℕ)) (end : ℕ) (after : MutBor (List ℕ)) → skip < 2 ^ 64 → length before.now ≡ part_size → post skip before end after
    → (end ≡ length (part_from skip text)) × (after.now ≡ laid_over (part_from skip text) before.now)
