-- M1 and M2: each refusal of reading and of writing is given exactly when document 01 says, in its order, and what is accepted is the message.
use Prim.Native.Nat.{ℕ}
use mathlib.Core.Path.{◌≡◌, refl, ap, ◌∙◌}
use mathlib.Core.Logic.{◌↔◌}
use mathlib.Core.List.{List}
use native.Mathlib.Omega.{arith}
use lib.ListN.{length}
use Rattle.std.specs.Prelude.{Ok, Err}
use Rattle.message.specs.declared.Message.{Message}
use Rattle.basics.specs.Refusals.{answered, None, Given}
use Rattle.message.specs.Messages.{message_bytes}
use Rattle.message.specs.Reading.{message_in, read_tests, read_of}
use Rattle.message.specs.Writing.{write_tests, write_of, overwritten, out_after}
use Rattle.basics.proofs.Firsts.{first_none, first_given, answered_yes, answered_no, refused_exactly, accepted_exactly}

-- ---- reading

read_apart : (m : Message) (n : ℕ) → Ok m ≡ Err n → ⊥
read_apart m n e = let z : ◌≡◌ {A = ℕ} 0 1 = cc in omega arith

pub read_refused : (s : List ℕ) (n : ℕ) → (n ≡ 0 → ⊥) → (read_of s ≡ Err n) ↔ Given n (read_tests s)
unfolding read_of
read_refused s n p = refused_exactly Ok Err read_apart (λ a b e. cc) (read_tests s) (message_in s) n p

pub read_accepted : (s : List ℕ) (m : Message) → (read_of s ≡ Ok m) ↔ (None (read_tests s) × (m ≡ message_in s))
unfolding read_of
read_accepted s m = accepted_exactly Ok Err read_apart (λ x y e. cc) (read_tests s) refl (message_in s) m

-- ---- writing

written_apart : (k n : ℕ) → Ok k ≡ Err n → ⊥
written_apart k n e = let z : ◌≡◌ {A = ℕ} 0 1 = cc in omega arith

pub write_refused : (m : Message) (s out : List ℕ) (n : ℕ) → (n ≡ 0 → ⊥) → (write_of m s out ≡ Err n) ↔ Given n (write_tests m s out)
unfolding write_of
write_refused m s out n p = refused_exactly Ok Err written_apart (λ a b e. cc) (write_tests m s out) (length (message_bytes m s)) n p

pub write_accepted : (m : Message) (s out : List ℕ) (k : ℕ) → (write_of m s out ≡ Ok k) ↔ (None (write_tests m s out) × (k ≡ length (message_bytes m s)))
unfolding write_of
write_accepted m s out k = accepted_exactly Ok Err written_apart (λ x y e. cc) (write_tests m s out) refl (length (message_bytes m s)) k

-- On refusal the output is as it was; on acceptance only the message's own bytes differ, from the first byte on.
pub refused_keeps : (m : Message) (s out : List ℕ) (n : ℕ) → (n ≡ 0 → ⊥) → write_of m s out ≡ Err n → out_after m s out ≡ out
unfolding out_after
refused_keeps m s out n p e =
    let first = (first_given (write_tests m s out) n p).1 ((write_refused m s out n p).0 e) in
    ap (λ (k : ℕ). answered (overwritten out) (λ _. out) k (message_bytes m s)) first ∙ answered_no (overwritten out) (λ _. out) n (message_bytes m s) p

pub accepted_leaves : (m : Message) (s out : List ℕ) (k : ℕ) → write_of m s out ≡ Ok k → out_after m s out ≡ overwritten out (message_bytes m s)
unfolding out_after
accepted_leaves m s out k e =
    answered_yes (overwritten out) (λ _. out) (message_bytes m s) ((first_none (write_tests m s out) refl).1 ((write_accepted m s out k).0 e).0)
