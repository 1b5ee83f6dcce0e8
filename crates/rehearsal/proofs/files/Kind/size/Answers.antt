-- Only a message received makes a call longer than its head.
use Prim.Native.Nat.{ℕ, ◌+◌}
use mathlib.Core.Path.{sym, ap, ◌∙◌}
use native.Mathlib.Omega.{arith}
use Rattle.rehearsal.specs.Files.{head_size}
use Rattle.rehearsal.specs.Kinds.{number_of}
use Rattle.rehearsal.proofs.Good.{size_received, size_other, number_small, only_receive}
use Rattle.rehearsal.proofs.files.Kind.size.Goals as goal

pub overflow_add-result : goal.overflow_add-result
overflow_add-result c =
    let a = c.args in
    omega (arith, c.read_at.ensures, number_small a.file.now (a.at + 3) (λ k. (c.type_inv.file k).fits))

pub returns-in-Receive : goal.returns-in-Receive
returns-in-Receive c =
    let a = c.args in
    ap (λ (n : ℕ). 5 + n) c.read_at.ensures ∙ sym (size_received a.file.now a.at (c.requires.2 ∙ ap number_of c.in-Receive.is))

pub returns-in_default : goal.returns-in_default
returns-in_default c =
    let a = c.args in
    c.head_size.ensures ∙ sym (ap head_size c.requires.2) ∙ sym (size_other a.file.now a.at (λ five. only_receive a.self c.in_default.not-Receive (sym c.requires.2 ∙ five)))
