-- Each field stands where its MTI puts it.
use Prim.Native.Nat.{ℕ}
use mathlib.Core.Path.{ap, ◌∙◌}
use Rattle.message.specs.Mti.{carries_event}
use Rattle.message.specs.Reading.{field_at, fields_in}
use Rattle.message.proofs.reader.fields.Goals as goal

pub returns : goal.returns
unfolding fields_in
returns c =
    let a = c.args in
    let event = c.field_at-2.ensures ∙ ap (λ (k : ℕ). field_at (carries_event a.code) a.bytes.now k 8) c.event_at.ensures in
    λ i. record { mti = a.code; source = c.read_at.ensures i; destination = c.field_at.ensures i; event = event i }
