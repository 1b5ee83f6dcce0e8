-- Where fewer bytes are left than are asked for, all of them are read.
use mathlib.Core.Path.{◌≡◌, refl, ◌∙◌}
use Prim.Native.Nat.{◌+◌, ◌-◌}
use native.Mathlib.Omega.{arith}
use lib.ListN.{length}
use Rattle.numbers.specs.Numbers.{at_most_eight, Bytes}
use Rattle.numbers.proofs.Laws.{number_part, all_left}
use Rattle.numbers.proofs.by_bytes.Goals as goal

pub returns-then-bytes-at : goal.returns-then-bytes-at
returns-then-bytes-at c =
    let a = c.args in
    let s = a.bytes.now in
    let most = c.at_most_eight-most.ensures in
    let bytes : Bytes s = λ k. (c.type_inv.bytes k).fits in
    c.read.ensures ∙ number_part s a.at (length s - a.at) (at_most_eight a.width) bytes (all_left s a.at (length s - a.at) (at_most_eight a.width) (omega arith) (omega (arith, most.value, c.if-bytes-at.true))) (omega (arith, most.value, most.upper_bound))

pub returns : goal.returns
returns c =
    let a = c.args in
    let s = a.bytes.now in
    let most = c.at_most_eight-most.ensures in
    let bytes : Bytes s = λ k. (c.type_inv.bytes k).fits in
    let width : a.at + c.at_most_eight-most.result - a.at ≡ at_most_eight a.width = omega (arith, most.value) in
    (rw width at c.read-2.ensures) ∙ number_part s a.at (at_most_eight a.width) (at_most_eight a.width) bytes refl (omega (arith, most.value, most.upper_bound))
