use Prim.Native.Nat.{ℕ, ◌≤◌}
use mathlib.Core.Path.{◌≡◌, sym, ap, ◌∙◌}
use mathlib.Core.List.{List, ◌++◌}
use native.Mathlib.Omega.{arith}
use lib.ListN.{length}
use Rattle.numbers.specs.Numbers.{bytes_of, pasted, number_put}
use Rattle.numbers.proofs.Laws.{bytes_length, put_where_room}
use Rattle.numbers.proofs.Pasting.{pasted_length}
use Rattle.numbers.proofs.Pairs.{pasted_before}
use Rattle.message.proofs.writer.put_front.Goals as goal

-- The source goes in first, the MTI before it.
front : (code source : ℕ) (out : List ℕ) → 8 ≤ length out → number_put code 2 0 (number_put source 6 2 out) ≡ pasted 0 (bytes_of 2 code ++ bytes_of 6 source) out
front code source out h =
    let six = bytes_of 6 source in
    let room = pasted_length 2 six out (omega (arith, bytes_length 6 source)) in
    ap (number_put code 2 0) (sym (put_where_room source 6 2 out (omega arith)))
    ∙ sym (put_where_room code 2 0 (pasted 2 six out) (omega (arith, room)))
    ∙ pasted_before 0 2 (bytes_of 2 code) six out (omega (arith, bytes_length 2 code)) (omega arith)

pub returns : goal.returns
returns c =
    let a = c.args in
    c.write_at-2.ensures
    ∙ ap (number_put a.code 2 0) c.write_at.ensures
    ∙ front a.code a.source a.out.now c.requires
