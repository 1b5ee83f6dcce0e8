use Prim.Native.Nat.{ℕ, ◌-◌}
use mathlib.Core.Path.{◌≡◌, sym, ap, ap₂, ◌∙◌}
use mathlib.Core.List.{List}
use native.Mathlib.Omega.{arith}
use lib.ListN.{length, take, drop, length-drop}
use lib.Seq.{take_all}
use Rattle.numbers.proofs.Laws.{number_at_below}
use Rattle.basics.specs.Refusals.{first_of}
use Rattle.message.specs.Mti.{content_at}
use Rattle.message.specs.Messages.{bad_node, rest_tests}
use Rattle.numbers.specs.Numbers.{number_at}
use Rattle.message.proofs.Laws.{content_none}
use Rattle.message.proofs.Readings.{read_short, read_barred, read_missing, read_source, read_destination, read_rest}
use Rattle.message.proofs.reader.check.Goals as goal

-- Each return is one of the ways that a byte string can be refused.
-- The whole rest of the bytes is what is left from a place on.
rest_of : (s : List ℕ) (at : ℕ) → take (length s - at) (drop at s) ≡ drop at s
rest_of s at = let size = length-drop at s in take_all (length s - at) (drop at s) (omega arith)

pub returns-then-bytes-lt2 : goal.returns-then-bytes-lt2
returns-then-bytes-lt2 c = read_short c.args.bytes.now c.if-bytes-lt2.true

pub overflow_cast-code : goal.overflow_cast-code
overflow_cast-code c = record { fits = rw c.read_at-code.ensures (number_at_below c.args.bytes.now 0 2 (λ k. (c.type_inv.bytes k).fits)) }

pub returns-then-barred : goal.returns-then-barred
returns-then-barred c = read_barred c.args.bytes.now c.read_at-code.ensures c.if-bytes-lt2.false (sym c.if-barred.ensures)

pub returns-then-bytes-at : goal.returns-then-bytes-at
returns-then-bytes-at c = read_missing c.args.bytes.now c.read_at-code.ensures c.if-bytes-lt2.false (sym c.if-barred.ensures) (rw c.content_at-at.ensures at c.if-bytes-at.true)

pub returns-then-bad_node : goal.returns-then-bad_node
returns-then-bad_node c = read_source c.args.bytes.now c.read_at-code.ensures c.if-bytes-lt2.false (sym c.if-barred.ensures) (rw c.content_at-at.ensures at c.if-bytes-at.false) (sym (c.bad_node.ensures ∙ ap bad_node c.read_at-source.ensures) ∙ c.if-bad_node.true)

pub returns-then-bad_destination : goal.returns-then-bad_destination
returns-then-bad_destination c = read_destination c.args.bytes.now c.read_at-code.ensures c.if-bytes-lt2.false (sym c.if-barred.ensures) (rw c.content_at-at.ensures at c.if-bytes-at.false) (sym c.if-bad_destination.ensures)

pub returns-then-bytes-at-2 : goal.returns-then-bytes-at-2
returns-then-bytes-at-2 c =
    let s = c.args.bytes.now in
    let m = c.read_at-code.result in
    let none : length (drop (content_at m) s) ≡ 0 = omega (arith, length-drop (content_at m) s, c.if-bytes-at-2.true, c.content_at-at.ensures) in
    let source = sym (c.bad_node.ensures ∙ ap bad_node c.read_at-source.ensures) ∙ c.if-bad_node.false in
    c.check_none.ensures ∙ content_none m (number_at s 2 6) (drop (content_at m) s) none ∙ read_rest c.args.bytes.now c.read_at-code.ensures c.if-bytes-lt2.false (sym c.if-barred.ensures) (rw c.content_at-at.ensures at c.if-bytes-at.false) source (sym c.if-bad_destination.ensures)

pub returns : goal.returns
returns c =
    let s = c.args.bytes.now in
    let content = rest_of s c.content_at-at.result ∙ ap (λ (k : ℕ). drop k s) c.content_at-at.ensures in
    let source = sym (c.bad_node.ensures ∙ ap bad_node c.read_at-source.ensures) ∙ c.if-bad_node.false in
    c.check_content.ensures
    ∙ ap₂ (λ (x : ℕ) (l : List ℕ). first_of (rest_tests c.read_at-code.result x l)) c.read_at-source.ensures content
    ∙ read_rest c.args.bytes.now c.read_at-code.ensures c.if-bytes-lt2.false (sym c.if-barred.ensures) (rw c.content_at-at.ensures at c.if-bytes-at.false) source (sym c.if-bad_destination.ensures)
