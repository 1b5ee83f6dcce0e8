-- The tests in the order of the code.
use Prim.Native.Nat.{ℕ}
use mathlib.Core.Bool.{Bool, true, false}
use mathlib.Core.List.{List}
use mathlib.Core.Path.{◌≡◌, sym, ap, ◌∙◌}
use native.Mathlib.Omega.{arith}
use lib.Dec.{leb}
use Rattle.std.specs.Bool.{then_some}
use Rattle.rehearsal.specs.declared.files.Kind.{Kind}
use Rattle.rehearsal.specs.Files.{call_in, head_size, good_call}
use Rattle.rehearsal.specs.Kinds.{number_of, IsGood}
use Rattle.rehearsal.proofs.Good.{unknown_call, cut_in_head, cut_short, room_left}
use Rattle.rehearsal.proofs.files.good_call.Goals as goal

pub returns-in_err-kind : goal.returns-in_err-kind
returns-in_err-kind c = rw c.from_residual.ensures (unknown_call c.args.file.now c.args.at c.in_err-kind.ensures)

pub returns-then-file-at : goal.returns-then-file-at
returns-then-file-at c =
    let is = c.in_ok-kind.ensures in
    let head = c.head_size.ensures ∙ sym (ap head_size is) in
    cut_in_head c.args.file.now c.args.at _ is (omega (arith, head))

pub returns-then-file-at-2 : goal.returns-then-file-at-2
returns-then-file-at-2 c =
    let is = c.in_ok-kind.ensures in
    let head = c.head_size.ensures ∙ sym (ap head_size is) in
    cut_short c.args.file.now c.args.at _ is (omega (arith, head)) (omega (arith, c.size.ensures))

by_room : (t : Bool) (kind : Kind) (s : List ℕ) (at : ℕ) → good_call s at ≡ t → call_in s at ≡ number_of kind → IsGood (then_some t kind) s at
by_room true kind s at good is = (good, is)
by_room false kind s at good is = good

pub returns : goal.returns
returns c =
    let s = c.args.file.now in
    let at : ℕ = c.args.at in
    let is = c.in_ok-kind.ensures in
    let head = c.head_size.ensures ∙ sym (ap head_size is) in
    let good = room_left s at _ is (omega (arith, head)) (omega (arith, c.size.ensures)) in
    rw c.then_some.ensures (by_room _ _ s at (good ∙ ap (λ (n : ℕ). leb n 2048) (sym c.room.ensures)) is)
