-- What each way out of a call leaves: the refusals in their order, and the accepted call.
use Prim.Native.Nat.{ℕ}
use mathlib.Core.Path.{◌≡◌, refl, sym, ap, ◌∙◌}
use mathlib.Core.Bool.{true}
use mathlib.Core.List.{List, [], ◌∷◌, ◌++◌}
use native.Mathlib.Omega.{arith}
use lib.ListN.{length}
use Rattle.numbers.specs.Numbers.{pasted}
use Rattle.numbers.proofs.Pasting.{pasted_first}
use Rattle.basics.specs.declared.Refusal.{Refusal}
use Rattle.basics.specs.Refusals.{Test, numbered, first_of, answered, refusal_number}
use Rattle.basics.proofs.Numbers.{refusal_numbered}
use Rattle.basics.proofs.Firsts.{first_none, first_some, first_after, answered_yes, answered_no}
use Rattle.basics.proofs.Sets.{nobody}
use Rattle.node_rules.specs.declared.Call.{Call}
use Rattle.node_rules.specs.Boards.{Slots, Board}
use Rattle.node_rules.specs.Sending.{all_bytes}
use Rattle.node_rules.specs.Calls.{Outcome, refusing, board_tests, accepted, call_tests, outcome}
use Rattle.node.specs.declared.Answer.{Answer}
use Rattle.node.specs.declared.calls.Done.{Done}
use Rattle.std.specs.Prelude.{Result, Err}
use Rattle.std.specs.Result.{IsErrAnd}
use Rattle.std.proofs.lemmas.Result.{err_from_is_err_and}
use Rattle.node.specs.Boards.{answer_in}
use Rattle.node.specs.Answers.{Result as Left, result, answer, answer_of, result_by, called}

-- ---- tests in a row

pub refused_by : (ts us : List Test) (r : Refusal) → refusal_number r ≡ first_of ts → first_of (ts ++ us) ≡ refusal_number r
refused_by ts us r e = first_some ts us (λ s. refusal_numbered r (e ∙ s)) ∙ sym e

pub passed_by : (ts us : List Test) → numbered ts ≡ true → 0 ≡ first_of ts → first_of (ts ++ us) ≡ first_of us
passed_by ts us n z = first_after ((first_none ts n).0 (sym z)) us

-- ---- a call

-- An empty output stays empty.
pub without_output : {a : Answer} {s : Slots} {r : Left} (o : List ℕ) → length o ≡ 0 → result a s o ≡ r → result a s [] ≡ r
without_output [] h e = e
without_output (x ∷ o) h e = absurd (omega (arith, h))

-- A call is the one that it is known to be.
pub call_named : (b : Board) (bytes out : List ℕ) {call k : Call} {left : Left} → call ≡ k → left ≡ called b k bytes out → left ≡ called b call bytes out
call_named b bytes out is e = e ∙ sym (ap (λ (call : Call). called b call bytes out) is)

module _ (b : Board) (call : Call) (bytes out : List ℕ) where
  -- What a refusal leaves, by whichever tests.
  refused_lem : (r : Refusal) (k : ℕ) → refusal_number r ≡ k
      → result (answer (refusal_number r) 0 0 0 b.node) b.slots out ≡ result_by out (answered (λ (o : Outcome). o) (refusing b) k (accepted b call bytes))
  refused_lem r k e =
      let n = refusal_number r in
      ap (λ (set : ℕ). result (answer n 0 0 set b.node) b.slots out) (sym (nobody 64))
      ∙ ap (result_by out)
      (sym (answered_no (λ o. o) (refusing b) n (accepted b call bytes) (refusal_numbered r))
      ∙ ap (λ (k : ℕ). answered (λ (o : Outcome). o) (refusing b) k (accepted b call bytes)) e)

  -- The refusals that every call can give come first ..
  pub call_barred : (r : Refusal) → refusal_number r ≡ first_of (board_tests b)
      → result (answer (refusal_number r) 0 0 0 b.node) b.slots out ≡ result_by out (outcome b call bytes (length out))
  unfolding outcome
  call_barred r e = refused_lem r _ (sym (refused_by (board_tests b) (call_tests b call bytes (length out)) r e))

  -- .. and past them are those of the call itself.
  pub call_passed : 0 ≡ first_of (board_tests b) → called b call bytes out ≡ result_by out (outcome b call bytes (length out))
  unfolding outcome
  call_passed good =
      ap (λ (k : ℕ). result_by out (answered (λ (o : Outcome). o) (refusing b) k (accepted b call bytes)))
      (sym (passed_by (board_tests b) (call_tests b call bytes (length out)) refl good))

  pub call_refused : (r : Refusal) → first_of (call_tests b call bytes (length out)) ≡ refusal_number r
      → result (answer (refusal_number r) 0 0 0 b.node) b.slots out ≡ called b call bytes out
  call_refused r e = refused_lem r _ (sym e)

  -- The exit of a `?`.
  pub call_left : (x : Result Done Refusal) (r : Refusal) → IsErrAnd x (λ d. d ≡ r) → first_of (call_tests b call bytes (length out)) ≡ refusal_number r
      → result (answer_in b.node x) b.slots out ≡ called b call bytes out
  call_left x r h e =
      let k = err_from_is_err_and x h in
      ap (λ (y : Result Done Refusal). result (answer_in b.node y) b.slots out) (k.1 ∙ ap Err k.2) ∙ call_refused r e

  -- No test applies.
  pub call_accepted : {a : Answer} {s : Slots} {o' : List ℕ} → first_of (call_tests b call bytes (length out)) ≡ 0
      → a ≡ answer_of (accepted b call bytes) → s ≡ (accepted b call bytes).next.slots → o' ≡ pasted 0 (all_bytes (accepted b call bytes).sent) out
      → result a s o' ≡ called b call bytes out
  call_accepted e p q r =
      (λ i. result (p i) (q i) ((r ∙ pasted_first (all_bytes (accepted b call bytes).sent) out) i))
      ∙ ap (result_by out) (sym (answered_yes (λ o. o) (refusing b) (accepted b call bytes) e))
