use Prim.Native.Nat.{ℕ, ◌+◌}
use mathlib.Core.Path.{◌≡◌, refl, sym, ap, ◌∙◌}
use mathlib.Core.List.{List}
use native.Mathlib.Numerals.{add-one}
use native.Mathlib.Omega.{arith}
use lib.ListN.{length, get_or, set, length-set}
use lib.Seq.{paste, paste-zero, paste-suc}
use Rattle.numbers.proofs.Pasting.{all_copied}
use Rattle.message.proofs.writer.put_body.Goals as goal

pub loop-i-init : goal.loop-i-init
loop-i-init c = (omega arith, refl, paste-zero c.args.out.now c.args.at c.args.body.now)

pub loop-i-preserved : goal.loop-i-preserved
loop-i-preserved c =
    let a = c.args in
    let l = c.loop-i in
    let step = paste-suc a.out.now a.at a.body.now l.i 0 (omega arith) (omega arith) in (
      omega arith,
      simp length-set l.invariant.1,
      ap (λ (o : List ℕ). set o (a.at + l.i) (get_or a.body.now l.i 0)) l.invariant.2 ∙ step ∙ ap (paste a.out.now a.at a.body.now) (sym (add-one l.i)),
    )

pub shape_of-out : goal.shape_of-out
shape_of-out c = c.loop-i.invariant.1

pub returns : goal.returns
returns c =
    let a = c.args in
    let all : c.loop-i.i ≡ length a.body.now = omega arith in
    c.loop-i.invariant.2 ∙ ap (paste a.out.now a.at a.body.now) all ∙ all_copied a.at a.out.now a.body.now
