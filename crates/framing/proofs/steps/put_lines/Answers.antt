use Prim.Native.Nat.{ℕ}
use mathlib.Core.Path.{refl, ap, ◌∙◌}
use lib.ListN.{take}
use Rattle.std.specs.Prelude.{Option, unwrap_or}
use native.Mathlib.Omega.{arith}
use Rattle.can_rules.specs.Aliases.{listed}
use Rattle.framing.proofs.Good.{step_least, step_known}
use Rattle.framing.proofs.Running.{running_start, running_good, running_whole, running_next, running_end}
use Rattle.framing.proofs.steps.put_lines.Goals as goal

pub overflow_cast-at : goal.overflow_cast-at
overflow_cast-at c = omega (arith, c.type_inv.file 0)

pub overflow_mul-at : goal.overflow_mul-at
overflow_mul-at c = omega (arith, c.type_inv.file 0)

pub overflow_add-at : goal.overflow_add-at
overflow_add-at c = omega (arith, c.type_inv.file 0)

pub overflow_add-at-2 : goal.overflow_add-at-2
overflow_add-at-2 c = omega (arith, c.type_inv.file 0)

pub loop-k-init : goal.loop-k-init
loop-k-init c =
    (running_start (listed c.args.aliases.now c.args.nodes.now) c.args.file.now c.args.page.now c.new-leg.result.state refl c.new-leg.ensures.nothing_begun (omega arith) c.requires.file_value (omega arith), c.new-leg.ensures.list, c.read_at-count.ensures, refl)

pub bounds-file-at : goal.bounds-file-at
bounds-file-at c =
    let l = c.loop-k in
    omega (arith, step_least c.args.file.now l.at (running_good l.invariant.0 (omega (arith, c.loop-k-test.true, l.invariant.2))))

pub unwrap-kind-requires : goal.unwrap-kind-requires
unwrap-kind-requires c =
    let l = c.loop-k in
    step_known c.args.file.now l.at (running_good l.invariant.0 (omega (arith, c.loop-k-test.true, l.invariant.2))) c.of.result c.of.ensures

pub step-done-requires : goal.step-done-requires
step-done-requires c =
    let l = c.loop-k in
    (l.invariant.0.inside, omega arith, running_good l.invariant.0 (omega (arith, c.loop-k-test.true, l.invariant.2)), rw c.unwrap-kind.ensures at c.of.ensures, l.invariant.3)

pub overflow_add-at-in-loop-k : goal.overflow_add-at-in-loop-k
overflow_add-at-in-loop-k c =
    let l = c.loop-k in
    omega (arith, running_whole l.invariant.0 (omega (arith, c.loop-k-test.true, l.invariant.2)), c.size-at.ensures, c.requires.file_len_bound.0)

pub loop-k-preserved : goal.loop-k-preserved
loop-k-preserved c =
    let l = c.loop-k in
    let step = c.step-done in (
      running_next l.invariant.0 (omega (arith, c.loop-k-test.true, l.invariant.2)) step.new.self.state (rw l.invariant.1 at step.ensures.left) (c.unwrap_or-refusal.ensures ∙ ap (λ (e : Option ℕ). unwrap_or e 0) c.err.ensures.value) (ap (λ (n : ℕ). take n step.new.out) c.unwrap_or-written.ensures) c.put_line.ensures c.size-at.ensures,
      step.ensures.aliases_kept ∙ l.invariant.1,
      l.invariant.2,
      step.auto.out ∙ l.invariant.3,
    )

pub returns : goal.returns
returns c = running_end c.loop-k.invariant.0 (omega (arith, c.loop-k-test.false, c.loop-k.invariant.2))
