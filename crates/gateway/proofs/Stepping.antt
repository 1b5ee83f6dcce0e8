-- A step by its tests: out of bounds, a port that is not there, then what the bytes read as.
use Prim.Native.Nat.{ℕ, zero, suc, ◌≤◌, ◌<◌}
use mathlib.Core.Path.{◌≡◌, refl, ap, ◌∙◌}
use mathlib.Core.Bool.{true, false}
use mathlib.Core.List.{List}
use borrow.Author.Tests.{le-leb, lt-leb}
use lib.Dec.{leb}
use Rattle.message.specs.declared.Message.{Message}
use Rattle.std.specs.Prelude.{Result, Ok, Err}
use Rattle.message.specs.Reading.{message_in, read_tests, read_of}
use Rattle.basics.specs.Refusals.{first_of, answered}
use Rattle.gateway.specs.declared.state.Head.{Head}
use Rattle.gateway_rules.specs.State.{Gate, out_of_bounds}
use Rattle.gateway.specs.State.{Lists, gate_in}
use Rattle.gateway_rules.specs.Step.{Outcome, taking, refusing, step}

abbrev reading : Gate → ℕ → Result Message ℕ → Outcome
reading g q (Ok m) = taking g q m
reading g q (Err n) = refusing g n

by_number : (g : Gate) (q n : ℕ) (m : Message) → answered (taking g q) (refusing g) n m ≡ reading g q (answered Ok Err n m)
by_number g q zero m = refl
by_number g q (suc n) m = refl

pub step_at_7 : (g : Gate) (q : ℕ) (bytes : List ℕ) → out_of_bounds g ≡ true → step g q bytes ≡ refusing g 7
unfolding step
step_at_7 g q bytes o = rw o

pub step_at_8 : (g : Gate) (q : ℕ) (bytes : List ℕ) → out_of_bounds g ≡ false → leb g.ports q ≡ true → step g q bytes ≡ refusing g 8
unfolding step
step_at_8 g q bytes o p = rw (o, p)

step_reads : (g : Gate) (q : ℕ) (bytes : List ℕ) → out_of_bounds g ≡ false → leb g.ports q ≡ false → step g q bytes ≡ reading g q (read_of bytes)
unfolding step read_of
step_reads g q bytes o p = rw (o, p) (by_number g q (first_of (read_tests bytes)) (message_in bytes))

pub ports_reached : (head : Head) (t : Lists) (q : ℕ) → head.ports ≤ q → leb (gate_in head t).ports q ≡ true
unfolding gate_in
ports_reached head t q l = le-leb head.ports q l

ports_missed : (head : Head) (t : Lists) (q : ℕ) → q < head.ports → leb (gate_in head t).ports q ≡ false
unfolding gate_in
ports_missed head t q l = lt-leb head.ports q l

-- What the step gives once it is known what the bytes read as.
module _ (head : Head) (t : Lists) (q : ℕ) (bytes : List ℕ) (o : out_of_bounds (gate_in head t) ≡ false) (l : q < head.ports) where
  at_reading : (r : Result Message ℕ) → read_of bytes ≡ r → step (gate_in head t) q bytes ≡ reading (gate_in head t) q r
  at_reading r e = step_reads (gate_in head t) q bytes o (ports_missed head t q l) ∙ ap (reading (gate_in head t) q) e

  pub step_takes : (m : Message) → read_of bytes ≡ Ok m → step (gate_in head t) q bytes ≡ taking (gate_in head t) q m
  step_takes m e = at_reading (Ok m) e

  pub step_refuses : (n : ℕ) → read_of bytes ≡ Err n → step (gate_in head t) q bytes ≡ refusing (gate_in head t) n
  step_refuses n e = at_reading (Err n) e
