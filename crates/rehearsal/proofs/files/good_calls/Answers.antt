use Prim.Native.Nat.{ℕ, ◌+◌, ◌-◌}
use mathlib.Core.Path.{◌≡◌, sym, ap, ◌∙◌}
use native.Mathlib.Omega.{arith}
use Rattle.rehearsal.specs.Files.{good_calls, most_calls}
use Rattle.rehearsal.proofs.Good.{good_called, calls_none, calls_end, calls_turn}
use Rattle.rehearsal.proofs.files.good_calls.Goals as goal

pub returns-then-file-at : goal.returns-then-file-at
returns-then-file-at c = let l = c.loop-k in sym (calls_end c.args.file.now l.at (most_calls - l._k) c.if-file-at.true) ∙ l.invariant.1

pub returns-in_default : goal.returns-in_default
returns-in_default c =
    let l = c.loop-k in
    sym (calls_turn c.args.file.now l.at (most_calls - l._k) (omega arith) c.if-file-at.false c.in_default.ensures) ∙ l.invariant.1

pub overflow_add-at : goal.overflow_add-at
overflow_add-at c =
    let good = good_called c.args.file.now c.loop-k.at c.in-Some.ensures.0 in
    omega (arith, good.whole, c.size-at.ensures)

pub loop-k-preserved : goal.loop-k-preserved
loop-k-preserved c =
    let f = c.args.file.now in
    let l = c.loop-k in
    let good = c.in-Some.ensures.0 in
    let rest : most_calls - (l._k + 1) ≡ most_calls - l._k - 1 = omega arith in
    rw (c.size-at.ensures, rest) ((good_called f l.at good).whole, sym (calls_turn f l.at (most_calls - l._k) (omega arith) c.if-file-at.false good) ∙ l.invariant.1)

pub returns : goal.returns
returns c =
    let l = c.loop-k in
    let last : most_calls - l._k ≡ 0 = omega arith in
    sym (ap (λ (n : ℕ). good_calls n c.args.file.now l.at) last ∙ calls_none c.args.file.now l.at) ∙ l.invariant.1
