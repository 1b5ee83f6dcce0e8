-- Every accepted report has an event, so that the theorem speaks of every report that is accepted.
use Prim.Native.Nat.{ℕ}
use mathlib.Core.Path.{◌≡◌, refl, sym, ap, ◌∙◌}
use mathlib.Core.Logic.{⊎_elim}
use mathlib.Core.Bool.{Bool, true, false, ◌||◌, false≢true}
use mathlib.Core.List.{List}
use borrow.Author.Tests.{eqb-true}
use lib.Dec.{eqb}
use Rattle.std.specs.Prelude.{Ok}
use Rattle.message.specs.declared.Kind.TheVariants.{EventReport}
use Rattle.message.specs.declared.Message.{Message}
use Rattle.message.specs.Mti.{is_report, carries_event, event_at, kind_of, mtis_of}
use Rattle.numbers.specs.Numbers.{number_at}
use Rattle.message.specs.Reading.{field_at, fields_in, mti_in, read_of}
use Rattle.message.proofs.Exactly.{read_accepted}
use Rattle.message.proofs.Sayings.{says_report}
use Rattle.message.proofs.KindsOfMti.{kind_exactly}
use Rattle.gateway_rules.specs.History.{Reports}
use Rattle.gateway_rules.proofs.Holding.{either_true}

report_carries : (m : ℕ) → is_report (kind_of m) ≡ true → carries_event m ≡ true
unfolding mtis_of
report_carries m e =
    let one = sym (kind_exactly EventReport refl m) ∙ e in
    ⊎_elim (λ t. ap carries_event (eqb-true m 0x05B4 t))
    (λ t. ⊎_elim (λ u. ap carries_event (eqb-true m 0x0F14 u)) (λ u. absurd (false≢true u)) (either_true (eqb m 0x0F14) false t))
    (either_true (eqb m 0x05B4) (eqb m 0x0F14 || false) one)

pub accepted_reports : (bytes : List ℕ) (m : Message) → read_of bytes ≡ Ok m → is_report (kind_of m.mti) ≡ true → (e : ℕ) × Reports e m
unfolding fields_in
accepted_reports bytes m r k =
    let held = ((read_accepted bytes m).0 r).1 in
    let carries = report_carries (mti_in bytes) (sym (ap (λ (x : Message). is_report (kind_of x.mti)) held) ∙ k) in
    let event = ap (λ (x : Message). x.event) held ∙ ap (λ (t : Bool). field_at t bytes (event_at (mti_in bytes)) 8) carries in
    (number_at bytes (event_at (mti_in bytes)) 8, record { says = says_report m _ k event })
