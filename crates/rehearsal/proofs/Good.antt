-- The size of a call, and what a good file has.
use Prim.Native.Nat.{ℕ, zero, suc, ◌+◌, ◌-◌, ◌≤◌, ◌<◌}
use mathlib.Core.Path.{◌≡◌, refl, sym, ap, ◌∙◌}
use mathlib.Core.Bool.{Bool, true, false, cond, ◌&&◌, ◌||◌, true≢false}
use mathlib.Core.List.{List}
use native.Mathlib.Nat.{add-zero}
use native.Mathlib.Omega.{arith}
use borrow.Author.Tests.{ne_eqb, le-leb, lt-leb, leb-true}
use lib.Dec.{eqb, leb}
use lib.ListN.{length}
use Rattle.std.specs.Prelude.{Option, Some, None, IsSome}
use Rattle.numbers.specs.Numbers.{Bytes, number_at}
use Rattle.numbers.proofs.Laws.{number_at_below}
use Rattle.basics.proofs.Bools.{both}
use Rattle.rehearsal.specs.declared.files.Kind.{Kind}
use Rattle.rehearsal.specs.declared.files.Kind.TheVariants.{Initialise, Announce, Produce, SetStatus, Receive}
use Rattle.rehearsal.specs.Kinds.{number_of, IsKind}
use Rattle.rehearsal.specs.Files.{slot_count, calls_at, call_in, room_at, message_length, head_size, size_at, good_call, good_calls, most_calls, good_file}

-- ---- the size of a call

pub head_some : (call : ℕ) → (3 ≤ head_size call) × (head_size call ≤ 5)
head_some call = go (eqb call 1 || eqb call 4) (eqb call 5)
  where
    go : (p q : Bool) → (3 ≤ cond p 3 (cond q 5 4)) × (cond p 3 (cond q 5 4) ≤ 5)
    go true q = omega arith
    go false true = omega arith
    go false false = omega arith

module _ (s : List ℕ) (at : ℕ) where
  pub size_received : call_in s at ≡ 5 → size_at s at ≡ 5 + message_length s at
  unfolding size_at
  size_received e = rw e

  pub size_other : (call_in s at ≡ 5 → ⊥) → size_at s at ≡ head_size (call_in s at)
  unfolding size_at
  size_other e =
      ap (λ (t : Bool). head_size (call_in s at) + cond t (message_length s at) 0) (ne_eqb (call_in s at) 5 e) ∙ add-zero (head_size (call_in s at))

  pub size_head : head_size (call_in s at) ≤ size_at s at
  unfolding size_at
  size_head = omega arith

-- A number of two bytes.
pub number_small : (s : List ℕ) (at : ℕ) → Bytes s → number_at s at 2 < 65536
number_small s at h = number_at_below s at 2 h

-- ---- the kinds of calls

pub number_between : (kind : Kind) → (1 ≤ number_of kind) × (number_of kind ≤ 5)
number_between Initialise = (omega arith, omega arith)
number_between Announce = (omega arith, omega arith)
number_between Produce = (omega arith, omega arith)
number_between SetStatus = (omega arith, omega arith)
number_between Receive = (omega arith, omega arith)

pub only_status : (kind : Kind) → (kind ≡ SetStatus → ⊥) → number_of kind ≡ 4 → ⊥
only_status Initialise h e = omega arith
only_status Announce h e = omega arith
only_status Produce h e = omega arith
only_status SetStatus h e = h refl
only_status Receive h e = omega arith

pub only_receive : (kind : Kind) → (kind ≡ Receive → ⊥) → number_of kind ≡ 5 → ⊥
only_receive Initialise h e = omega arith
only_receive Announce h e = omega arith
only_receive Produce h e = omega arith
only_receive SetStatus h e = omega arith
only_receive Receive h e = h refl

-- ---- a good call

pub record Called (s : List ℕ) (at : ℕ) : Type 0 where
  pub some : 1 ≤ call_in s at
  pub known : call_in s at ≤ 5
  pub head : at + head_size (call_in s at) ≤ length s
  pub whole : at + size_at s at ≤ length s
  pub room : room_at s at ≤ 2048

pub good_called : (s : List ℕ) (at : ℕ) → good_call s at ≡ true → Called s at
unfolding good_call
good_called s at e =
    let call = call_in s at in
    let (a, e₁) = both (leb 1 call && leb call 5) _ e in
    let (some, known) = both (leb 1 call) (leb call 5) a in
    let (head, e₂) = both (leb (at + head_size call) (length s)) _ e₁ in
    let (whole, room) = both (leb (at + size_at s at) (length s)) _ e₂ in
    record {
      some = leb-true 1 call some;
      known = leb-true call 5 known;
      head = leb-true (at + head_size call) (length s) head;
      whole = leb-true (at + size_at s at) (length s) whole;
      room = leb-true (room_at s at) 2048 room;
    }

-- The tests of a call in their order.
module _ (s : List ℕ) (at : ℕ) where
  pub unknown_call : (1 ≤ call_in s at → call_in s at ≤ 5 → ⊥) → good_call s at ≡ false
  unfolding good_call
  unknown_call h = go (leb 1 (call_in s at)) (leb (call_in s at) 5) refl refl
    where
      rest : Bool
      rest = leb (at + head_size (call_in s at)) (length s) && (leb (at + size_at s at) (length s) && leb (room_at s at) 2048)

      go : (t u : Bool) → leb 1 (call_in s at) ≡ t → leb (call_in s at) 5 ≡ u → ((t && u) && rest) ≡ false
      go false u e f = refl
      go true false e f = refl
      go true true e f = absurd (h (leb-true 1 (call_in s at) e) (leb-true (call_in s at) 5 f))

  module _ (kind : Kind) (is : call_in s at ≡ number_of kind) where
    known : (leb 1 (call_in s at) && leb (call_in s at) 5) ≡ true
    known =
        let between = number_between kind in
        let some : 1 ≤ call_in s at = omega (arith, is, between.0) in
        let most : call_in s at ≤ 5 = omega (arith, is, between.1) in
        rw (le-leb 1 (call_in s at) some, le-leb (call_in s at) 5 most)

    pub cut_in_head : length s < at + head_size (call_in s at) → good_call s at ≡ false
    unfolding good_call
    cut_in_head h = rw (known, lt-leb (at + head_size (call_in s at)) (length s) h)

    module _ (head : at + head_size (call_in s at) ≤ length s) where
      pub cut_short : length s < at + size_at s at → good_call s at ≡ false
      unfolding good_call
      cut_short h = rw (known, le-leb (at + head_size (call_in s at)) (length s) head, lt-leb (at + size_at s at) (length s) h)

      -- Of a call that is not cut short only the room is left to test.
      pub room_left : at + size_at s at ≤ length s → good_call s at ≡ leb (room_at s at) 2048
      unfolding good_call
      room_left whole =
          rw (known, le-leb (at + head_size (call_in s at)) (length s) head, le-leb (at + size_at s at) (length s) whole)

-- A good call is of a kind.
pub call_known : (s : List ℕ) (at : ℕ) → good_call s at ≡ true → (kind : Option Kind) → IsKind kind (call_in s at) → IsSome kind
call_known s at good None other = absurd (true≢false (sym good ∙ unknown_call s at other))
call_known s at good (Some kind) is = refl

-- ---- good calls to the end

pub calls_none : (s : List ℕ) (at : ℕ) → good_calls 0 s at ≡ leb (length s) at
unfolding good_calls
calls_none s at = refl

module _ (s : List ℕ) (at : ℕ) where
  pub calls_end : (n : ℕ) → length s ≤ at → good_calls n s at ≡ true
  unfolding good_calls
  calls_end zero h = le-leb (length s) at h
  calls_end (suc n) h = rw (le-leb (length s) at h)

  calls_more : (n : ℕ) → at < length s → good_calls (suc n) s at ≡ (good_call s at && good_calls n s (at + size_at s at))
  unfolding good_calls
  calls_more n h = rw (lt-leb (length s) at h)

  -- The first of good calls is one, and so are those after it.
  pub calls_good : (n : ℕ) → at < length s → good_calls (suc n) s at ≡ true → (good_call s at ≡ true) × (good_calls n s (at + size_at s at) ≡ true)
  calls_good n h e = both (good_call s at) (good_calls n s (at + size_at s at)) (sym (calls_more n h) ∙ e)

  -- Where some are still to do, the first decides, or those after it.
  pub calls_turn : (n : ℕ) → 0 < n → at < length s → {t : Bool} → good_call s at ≡ t → good_calls n s at ≡ (t && good_calls (n - 1) s (at + size_at s at))
  calls_turn n g h e =
      let one : n ≡ suc (n - 1) = omega arith in
      ap (λ (k : ℕ). good_calls k s at) one ∙ calls_more (n - 1) h ∙ ap (λ (t : Bool). t && good_calls (n - 1) s (at + size_at s at)) e

-- ---- a good file

pub record Good (s : List ℕ) : Type 0 where
  pub size : length s ≤ 65536
  pub board : 17 ≤ length s
  pub count : slot_count s ≤ 100
  pub slots : calls_at s ≤ length s
  pub calls : good_calls most_calls s (calls_at s) ≡ true

pub good_file_lem : (s : List ℕ) → good_file s ≡ true → Good s
unfolding good_file
good_file_lem s e =
    let (size, e₁) = both (leb (length s) 65536) _ e in
    let (board, e₂) = both (leb 17 (length s)) _ e₁ in
    let (count, e₃) = both (leb (slot_count s) 100) _ e₂ in
    let (slots, calls) = both (leb (calls_at s) (length s)) _ e₃ in
    record {
      size = leb-true (length s) 65536 size;
      board = leb-true 17 (length s) board;
      count = leb-true (slot_count s) 100 count;
      slots = leb-true (calls_at s) (length s) slots;
      calls = calls;
    }
