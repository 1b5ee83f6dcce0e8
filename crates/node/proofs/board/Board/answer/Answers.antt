use mathlib.Core.Path.{refl, sym, ap, ◌∙◌, subst}
use native.Mathlib.Omega.{arith}
use lib.ListN.{length}
use Rattle.numbers.specs.Numbers.{pasted}
use Rattle.node_rules.specs.Boards.{Slots, Board, advertise}
use Rattle.node_rules.specs.Sending.{whole_bytes, identified}
use Rattle.node.specs.declared.board.Board.{Board as Lent}
use Rattle.node.specs.Boards.{board_in, SameLists}
use Rattle.node.proofs.Lending.{same_all, same_board, same_answers}
use Rattle.node.proofs.Replying.{replied_start, replied_passed, next_room, replied_next, replied_all}
use Rattle.node.proofs.board.Board.answer.Goals as goal
use Rattle.node.proofs.board.Board.answer.Goals.{then-answers, else-answers}

pub loop-i-init : goal.loop-i-init
loop-i-init c = record { same = record { node = refl; roles = refl; events = refl; statuses = refl; marks = refl }; statuses = refl; replied = replied_start (board_in c.args.self.now) c.args.heard c.args.out.now }

pub identify-requires-clause-at_in_bounds : goal.identify-requires-clause-at_in_bounds
identify-requires-clause-at_in_bounds c =
    let l = c.loop-i in
    let asked = same_answers l.invariant.same c.args.heard l.i ∙ sym c.answers.ensures ∙ c.if-answers.true in
    next_room (board_in c.args.self.now) c.args.heard l.i l.invariant.replied asked c.requires (omega (arith, ap length l.invariant.same.roles))

pub loop-i-preserved : goal.loop-i-preserved
loop-i-preserved c =
    let b = board_in c.args.self.now in
    let l = c.loop-i in
    let p = l.invariant in
    let still = same_board p.same p.statuses in
    let told = same_answers p.same c.args.heard l.i ∙ sym c.answers.ensures in
    elim c.if-answers.branch [
      | then-answers w ↦ let e = w.identify.ensures in record {
        same = subst (λ (x : Lent). SameLists c.args.self.now x) (sym w.self-is) (same_all p.same e.same);
        statuses = ap (λ (x : Lent). x.statuses.now) w.self-is ∙ ap (λ (x : Slots). x.statuses) e.slots ∙ p.statuses;
        replied = rw (w.self-is, w.at-is, w.out-is) (replied_next b c.args.heard l.i p.replied (told ∙ w.if-answers.true) c.requires (omega (arith, ap length p.same.roles)) (ap (λ (x : Slots). x.marks) (e.slots ∙ ap (λ (x : Board). advertise x.slots l.i) still)) (e.out_after ∙ ap (λ (x : Board). pasted l.at (whole_bytes (identified x l.i)) l.out) still));
      }
      | else-answers w ↦ record {
        same = subst (λ (x : Lent). SameLists c.args.self.now x) (sym w.self-is) p.same;
        statuses = ap (λ (x : Lent). x.statuses.now) w.self-is ∙ p.statuses;
        replied = rw (w.self-is, w.at-is, w.out-is) (replied_passed b c.args.heard l.i p.replied (told ∙ w.if-answers.false));
      }
    ]

pub returns-clause-board : goal.returns-clause-board
returns-clause-board c =
    let l = c.loop-i in
    same_board l.invariant.same l.invariant.statuses ∙ (replied_all (board_in c.args.self.now) c.args.heard l.i l.invariant.replied (omega (arith, ap length l.invariant.same.roles))).0

pub returns-clause-out_after : goal.returns-clause-out_after
returns-clause-out_after c =
    let l = c.loop-i in
    (replied_all (board_in c.args.self.now) c.args.heard l.i l.invariant.replied (omega (arith, ap length l.invariant.same.roles))).1
