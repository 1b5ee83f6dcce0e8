use Prim.Native.Nat.{ℕ, ◌+◌, ◌-◌}
use mathlib.Core.Path.{◌≡◌, sym, ap, ◌∙◌}
use native.Mathlib.Omega.{arith}
use Rattle.framing.specs.Files.{good_steps}
use Rattle.framing.proofs.Good.{step_whole, steps_none, steps_turn}
use Rattle.framing.proofs.files.good_steps.Goals as goal

pub returns-in_default : goal.returns-in_default
returns-in_default c =
    let l = c.loop-k in
    sym (steps_turn c.args.file.now l.at (c.args.count - l._k) (omega arith) c.in_default.ensures) ∙ l.invariant.1

pub overflow_add-at : goal.overflow_add-at
overflow_add-at c =
    omega (arith, step_whole c.args.file.now c.loop-k.at c.in-Some.ensures.0, c.size-at.ensures)

pub loop-k-preserved : goal.loop-k-preserved
loop-k-preserved c =
    let l = c.loop-k in
    let good = c.in-Some.ensures.0 in
    let f = c.args.file.now in
    let rest : c.args.count - (l._k + 1) ≡ c.args.count - l._k - 1 = omega arith in
    rw (c.size-at.ensures, rest) ((step_whole f l.at good).1, sym (steps_turn f l.at (c.args.count - l._k) (omega arith) good) ∙ l.invariant.1)

pub returns : goal.returns
returns c =
    let l = c.loop-k in
    let last : c.args.count - l._k ≡ 0 = omega arith in
    sym (ap (λ (n : ℕ). good_steps n c.args.file.now l.at) last ∙ steps_none c.args.file.now l.at) ∙ l.invariant.1
