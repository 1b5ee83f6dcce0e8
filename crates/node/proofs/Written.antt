-- What writing a board's message leaves in the output.
use Prim.Native.Nat.{ℕ, ◌+◌, ◌-◌, ◌≤◌}
use mathlib.Core.Path.{◌≡◌, refl, sym, ap, ◌∙◌}
use mathlib.Core.Bool.{false}
use mathlib.Core.List.{List, [], ◌++◌, append-nil}
use native.Mathlib.Omega.{arith}
use lib.ListN.{length, take, drop, length-drop}
use lib.Seq.{length-take-le, drop-length}
use Rattle.numbers.specs.Numbers.{bytes_of, pasted}
use Rattle.message.specs.Messages.{bad_node, message_bytes}
use Rattle.message.specs.Writing.{out_after}
use Rattle.numbers.proofs.Pasting.{pasted_first, part_back}
use Rattle.message.proofs.Writings.{write_done}
use Rattle.node_rules.specs.Sending.{complete_by, with_event, Plain}
use Rattle.node_rules.proofs.Pieces.{plain_length, plain_tests, complete_length, complete_tests}

-- The part that was lent comes back filled with the message.
pub plain_filled : {mti : ℕ} → Plain mti → (id e : ℕ) → bad_node id ≡ false → (at : ℕ) (out part : List ℕ) → at + 16 ≤ length out
    → part ≡ out_after (with_event mti id e) [] (take (at + 16 - at) (drop at out))
    → take at out ++ (part ++ drop (at + 16 - at) (drop at out)) ≡ pasted at (message_bytes (with_event mti id e) []) out
plain_filled {mti = mti} p id e good at out part h f =
    let m = with_event mti id e in
    let bytes = message_bytes m [] in
    let lent = take 16 (drop at out) in
    let width : at + 16 - at ≡ 16 = omega arith in
    let size : length lent ≡ 16 = length-take-le 16 (drop at out) (omega (arith, length-drop at out)) in
    let whole : part ≡ bytes
    = (rw width at f)
    ∙ sym (write_done m [] lent p.free (plain_tests p id e good) (omega (arith, size, plain_length p id e))).1
    ∙ pasted_first bytes lent
    ∙ ap (λ (n : ℕ). bytes ++ drop n lent) (plain_length p id e ∙ sym size)
    ∙ ap (λ (l : List ℕ). bytes ++ l) (drop-length lent)
    ∙ append-nil bytes in
    part_back at 16 out part (ap length whole ∙ plain_length p id e) ∙ ap (λ (l : List ℕ). pasted at l out) whole

pub complete_written : (id : ℕ) → bad_node id ≡ false → (out : List ℕ) → 14 ≤ length out
    → out_after (complete_by id) (bytes_of 6 id) out ≡ pasted 0 (message_bytes (complete_by id) (bytes_of 6 id)) out
complete_written id good out h =
    sym (write_done (complete_by id) (bytes_of 6 id) out refl (complete_tests id good) (omega (arith, complete_length id good))).1
