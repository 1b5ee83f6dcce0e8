-- The board that a file starts with, and the text of a file.
use Prim.Native.Nat.{ℕ, zero, suc, ◌≤◌}
use mathlib.Core.Path.{◌≡◌, refl, sym, ap₂, ◌∙◌}
use mathlib.Core.Bool.{Bool, true, false, not}
use mathlib.Core.List.{List, ◌∷◌, [], ◌++◌}
use native.Mathlib.Omega.{arith}
use borrow.Author.Tests.{not-true, not-false}
use lib.ListN.{take, replicate, length-replicate, get_or-replicate}
use lib.Seq.{take-suc}
use Rattle.text.specs.Text.{bad_file}
use Rattle.range.specs.declared.Block.{Block}
use Rattle.range.specs.Range.{block_of}
use Rattle.numbers.specs.Numbers.{number_at}
use Rattle.node_rules.specs.Boards.{not_initialized, unadvertised}
use Rattle.node.specs.Lent.{slots_of, board_of}
use Rattle.basics.specs.Lists.{each}
use Rattle.rehearsal.specs.Files.{slot_count, role_in, event_in, status_in, board_in, good_file}
use Rattle.rehearsal.specs.Lines.{call_lines, text_of}
use Rattle.rehearsal.proofs.Good.{Good, good_file_lem}

-- The first marks are clear.
clear_first : (n m : ℕ) → n ≤ m → take n (replicate m 0) ≡ each n (λ _. unadvertised)
unfolding each
clear_first zero m h = refl
clear_first (suc n) m h =
    take-suc (replicate m 0) n 0 (omega (arith, length-replicate {A = ℕ} m 0))
    ∙ ap₂ (λ (xs : List ℕ) (x : ℕ). xs ++ (x ∷ [])) (clear_first n m (omega arith)) (get_or-replicate m n 0 0 (omega arith))

first : {i n : ℕ} → i ≡ n → (xs : List ℕ) (f : ℕ → ℕ) → take i xs ≡ each i f → take n xs ≡ each n f
first all xs f e = rw all at e

-- The board of a file's numbers, and of lists of which the first places hold its slots.
pub started_in : (s roles events statuses : List ℕ) {id i : ℕ} {automatic : Block} → slot_count s ≤ 100
    → id ≡ number_at s 0 8 → automatic ≡ block_of (number_at s 8 8) → i ≡ slot_count s
    → take i roles ≡ each i (role_in s) → take i events ≡ each i (event_in s) → take i statuses ≡ each i (status_in s)
    → board_of (record { id = id; state = not_initialized; automatic = automatic })
    (slots_of (take (slot_count s) roles) (take (slot_count s) events) (take (slot_count s) statuses) (take (slot_count s) (replicate 100 0))) ≡ board_in s
started_in s roles events statuses h e₁ e₂ all r e t =
    λ i. board_of (record { id = e₁ i; state = not_initialized; automatic = e₂ i })
    (slots_of (first all roles (role_in s) r i) (first all events (event_in s) e i) (first all statuses (status_in s) t i) (clear_first (slot_count s) 100 h i))

-- A file that passes the test.
pub passed_file : (s : List ℕ) {t : Bool} → t ≡ good_file s → not t ≡ false → Good s
passed_file s {t} e h = good_file_lem s (sym e ∙ not-false t h)

module _ (s : List ℕ) {t : Bool} (e : t ≡ good_file s) where
  pub text_bad : not t ≡ true → text_of s ≡ bad_file
  unfolding text_of
  text_bad h = rw (sym e ∙ not-true t h)

  pub text_good : not t ≡ false → text_of s ≡ call_lines (board_in s) s
  unfolding text_of
  text_good h = rw (sym e ∙ not-false t h)
