-- Where the bodies stand, and what a good file has.
use Prim.Native.Nat.{ℕ, zero, suc, ◌+◌, ◌-◌, ◌*◌, ◌≤◌, ◌<◌}
use mathlib.Core.Path.{◌≡◌, refl, ap, ap₂, ◌∙◌}
use mathlib.Core.Logic.{⊎_elim}
use mathlib.Core.Bool.{true}
use mathlib.Core.List.{List}
use native.Mathlib.Nat.{eq-or-lt_of_le}
use native.Mathlib.Numerals.{add-one}
use native.Mathlib.Omega.{arith}
use borrow.Author.Tests.{leb-true, eqb-true}
use lib.Dec.{leb}
use lib.ListN.{length, take, drop}
use Rattle.numbers.specs.Numbers.{Bytes}
use Rattle.numbers.proofs.Laws.{number_at_below}
use Rattle.basics.proofs.Bools.{both}
use Rattle.replay.specs.Files.{entry_count, entry_at, length_in, body_at, body_in, good_file}

-- ---- where the bodies stand

module _ (s : List ℕ) where
  pub body_first : body_at s 0 ≡ entry_at (entry_count s)
  unfolding body_at
  body_first = refl

  pub body_next : (i : ℕ) → body_at s (i + 1) ≡ body_at s i + length_in s i
  unfolding body_at
  body_next i = ap (body_at s) (add-one i)

  pub body_small : (i : ℕ) → Bytes s → body_at s i + length_in s i ≤ entry_at (entry_count s) + 65536 * (i + 1)
  unfolding body_at
  body_small zero h = omega (arith, number_at_below s (entry_at 0 + 1) 2 h)
  body_small (suc i) h = omega (arith, body_small i h, number_at_below s (entry_at (suc i) + 1) 2 h)

  -- A later body stands no earlier.
  body_later : (i n : ℕ) → i ≤ n → body_at s i ≤ body_at s n
  unfolding body_at
  body_later i zero h = let first : i ≡ 0 = omega arith in rw first (omega arith)
  body_later i (suc n) h = ⊎_elim (λ e. rw e (omega arith)) (λ l. omega (arith, body_later i n (omega (arith, l)))) (eq-or-lt_of_le h)

  pub body_part : (i : ℕ) {at size : ℕ} → at ≡ body_at s i → size ≡ length_in s i → take (at + size - at) (drop at s) ≡ body_in s i
  unfolding body_in
  body_part i {at} {size} e f =
      let whole : at + size - at ≡ size = omega arith in
      ap₂ (λ (n k : ℕ). take n (drop k s)) (whole ∙ f) e

-- ---- a good file

pub record Good (s : List ℕ) : Type 0 where
  pub size : length s ≤ 65536
  pub head : 2 ≤ length s
  pub count : entry_count s ≤ 1000
  pub table : entry_at (entry_count s) ≤ length s
  pub total : body_at s (entry_count s) ≡ length s

pub good_file_lem : (s : List ℕ) → good_file s ≡ true → Good s
unfolding good_file
good_file_lem s e =
    let (size, e₁) = both (leb (length s) 65536) _ e in
    let (head, e₂) = both (leb 2 (length s)) _ e₁ in
    let (count, e₃) = both (leb (entry_count s) 1000) _ e₂ in
    let (table, total) = both (leb (entry_at (entry_count s)) (length s)) _ e₃ in
    record {
      size = leb-true (length s) 65536 size;
      head = leb-true 2 (length s) head;
      count = leb-true (entry_count s) 1000 count;
      table = leb-true (entry_at (entry_count s)) (length s) table;
      total = eqb-true (body_at s (entry_count s)) (length s) total;
    }

-- The body of each entry is within a good file.
pub body_within : {s : List ℕ} → Good s → (i : ℕ) → i < entry_count s → body_at s i + length_in s i ≤ length s
body_within {s} g i h = omega (arith, body_later s (i + 1) (entry_count s) (omega arith), body_next s i, g.total)
