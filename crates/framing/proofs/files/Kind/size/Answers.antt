-- The content makes a split longer.
use mathlib.Core.Path.{sym, ap, ◌∙◌}
use Prim.Native.Nat.{ℕ, ◌+◌}
use native.Mathlib.Omega.{arith}
use Rattle.framing.specs.Kinds.{number_of}
use Rattle.framing.proofs.Good.{size_join, size_split, number_small}
use Rattle.framing.proofs.files.Kind.size.Goals as goal

pub overflow_add-result : goal.overflow_add-result
overflow_add-result c =
    omega (arith, c.read_at.ensures, number_small c.args.file.now (c.args.at + 29) (λ k. (c.type_inv.file k).fits))

pub returns-in-Join : goal.returns-in-Join
returns-in-Join c = sym (size_join c.args.file.now c.args.at (c.requires.1 ∙ ap number_of c.in-Join.is))

pub returns-in-Split : goal.returns-in-Split
returns-in-Split c =
    let two = c.requires.1 ∙ ap number_of c.in-Split.is in
    ap (λ (n : ℕ). 33 + n) c.read_at.ensures ∙ sym (size_split c.args.file.now c.args.at (λ one. omega (arith, one, two)))
