use mathlib.Core.Path.{sym, ap, ◌∙◌}
use Prim.Native.Nat.{ℕ, ◌+◌, ◌≤◌}
use native.Mathlib.Omega.{arith}
use lib.ListN.{length}
use Rattle.numbers.specs.Numbers.{bytes_of, pasted}
use Rattle.numbers.proofs.Laws.{put_where_room, put_no_room}
use Rattle.numbers.proofs.Pasting.{part_filled}
use Rattle.numbers.proofs.write_at.Goals as goal

-- Each way puts the same bytes in.
pub returns-then-out-at : goal.returns-then-out-at
returns-then-out-at c = put_no_room c.args.n c.args.width c.args.at c.args.out.now (omega (arith, c.if-out-at.true))

pub returns-then-out-at-2 : goal.returns-then-out-at-2
returns-then-out-at-2 c = put_no_room c.args.n c.args.width c.args.at c.args.out.now (omega (arith, c.if-out-at-2.true))

pub returns-then-width-eq8 : goal.returns-then-width-eq8
returns-then-width-eq8 c =
    let a = c.args in
    c.put_pairs.ensures ∙ ap (λ (w : ℕ). pasted a.at (bytes_of w a.n) a.out.now) (sym c.if-width-eq8.true) ∙ put_where_room a.n a.width a.at a.out.now (omega (arith, c.if-out-at.false, c.if-out-at-2.false))

pub returns-then-width-eq6 : goal.returns-then-width-eq6
returns-then-width-eq6 c =
    let a = c.args in
    c.put_pairs-then-width-eq6.ensures ∙ ap (λ (w : ℕ). pasted a.at (bytes_of w a.n) a.out.now) (sym c.if-width-eq6.true) ∙ put_where_room a.n a.width a.at a.out.now (omega (arith, c.if-out-at.false, c.if-out-at-2.false))

pub returns-then-width-eq2 : goal.returns-then-width-eq2
returns-then-width-eq2 c =
    let a = c.args in
    c.put_pairs-then-width-eq2.ensures ∙ ap (λ (w : ℕ). pasted a.at (bytes_of w a.n) a.out.now) (sym c.if-width-eq2.true) ∙ put_where_room a.n a.width a.at a.out.now (omega (arith, c.if-out-at.false, c.if-out-at-2.false))

pub returns : goal.returns
returns c =
    let a = c.args in
    let room : a.at + a.width ≤ length a.out.now = omega (arith, c.if-out-at.false, c.if-out-at-2.false) in
    part_filled a.at a.width a.n a.out.now _ room c.write.ensures ∙ put_where_room a.n a.width a.at a.out.now room
