-- What is told of reading and writing decides the answer.
use Prim.Native.Nat.{ℕ}
use mathlib.Core.Path.{◌≡◌, sym, ◌∙◌}
use mathlib.Core.List.{List}
use lib.ListN.{length}
use Rattle.std.specs.Prelude.{Result}
use Rattle.basics.specs.declared.Refusal.{Refusal}
use Rattle.basics.specs.Refusals.{first_of, in_numbers, told_of}
use Rattle.basics.proofs.Numbers.{told_answered, told_of_once}
use Rattle.message.specs.declared.Message.{Message}
use Rattle.message.specs.Messages.{message_bytes}
use Rattle.message.specs.Reading.{message_in, read_tests, read_told, read_of}
use Rattle.message.specs.Writing.{write_tests, write_told, write_of}

-- ---- what the one answer tells

pub read_told_lem : (s : List ℕ) → told_of (read_of s) ≡ read_told s
unfolding read_of read_told
read_told_lem s = told_answered (first_of (read_tests s)) (message_in s)

pub write_told_lem : (m : Message) (content out : List ℕ) → told_of (write_of m content out) ≡ write_told m content out
unfolding write_of write_told
write_told_lem m content out = told_answered (first_of (write_tests m content out)) (length (message_bytes m content))

-- So an answer that tells what reading tells is the reading.
pub read_once : (r : Result Message Refusal) (s : List ℕ) → told_of (in_numbers r) ≡ read_told s → in_numbers r ≡ read_of s
read_once r s e = told_of_once (in_numbers r) (read_of s) (e ∙ sym (read_told_lem s))
