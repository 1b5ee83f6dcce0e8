-- The pass that takes numbers out and lowers the others: the places before i are done, j of them stay, and from place i on nothing is changed.
use Prim.Native.Nat.{ℕ, ◌+◌, ◌-◌, ◌≤◌, ◌<◌}
use mathlib.Core.Path.{◌≡◌, refl, sym, ap, ◌∙◌}
use mathlib.Core.Logic.{⊎_elim}
use mathlib.Core.Bool.{true, false, false≢true}
use mathlib.Core.List.{List}
use native.Mathlib.Nat.{eq-or-lt_of_le, not-suc-le-zero, le_refl}
use native.Mathlib.Omega.{arith}
use borrow.Author.Tests.{le-leb, lt-leb}
use lib.ListN.{length, get_or, set}
use lib.Seq.{get_or-set_same, get_or-set_other}
use Rattle.index_rules.specs.Agreeing.{rank, drops, Lowered}
use Rattle.index_rules.proofs.Ranks.{rank_stays, rank_goes, rank_le, rank_below}
use Rattle.gateway.specs.Indexing.{entry_in, Lowerable}

pub record Lowering (falls before order : List ℕ) (i j : ℕ) : Type 0 where
  pub counted : j ≡ rank (drops falls (entry_in before)) i
  pub done : Lowered falls (entry_in before) i (entry_in order)
  pub rest : (m : ℕ) → i ≤ m → get_or order m 0 ≡ get_or before m 0

pub none_lowered : (falls before : List ℕ) → Lowering falls before before 0 0
none_lowered falls before = record { counted = refl; done = record { entries = λ m l. absurd (not-suc-le-zero l) }; rest = λ _ _. refl }

module _ {falls before order : List ℕ} {i j : ℕ} (s : Lowering falls before order i j) where
  -- The place that is written is never past the one that is read ..
  pub not_past : j ≤ i
  not_past = omega (arith, s.counted, rank_le (drops falls (entry_in before)) i)

  -- .. so what is read is what stood there.
  read : get_or order i 0 ≡ get_or before i 0
  read = s.rest i (le_refl i)

  fall_read : get_or falls (get_or order i 0) 0 ≡ get_or falls (get_or before i 0) 0
  fall_read = ap (λ (p : ℕ). get_or falls p 0) read

  pub not_below_zero : {n : ℕ} → Lowerable n before falls → i < n → get_or falls (get_or order i 0) 0 < 256 → get_or falls (get_or order i 0) 0 ≤ get_or order i 0
  not_below_zero w l f = omega (arith, read, fall_read, w.falling (get_or before i 0) (w.below i l) (omega (arith, fall_read)))

  pub taken_out : 256 ≤ get_or falls (get_or order i 0) 0 → Lowering falls before order (i + 1) j
  taken_out f =
      let goes : drops falls (entry_in before) i ≡ true = le-leb 256 (get_or falls (get_or before i 0) 0) (omega (arith, fall_read)) in
      record {
        counted = s.counted ∙ sym (rank_goes (drops falls (entry_in before)) i goes);
        done = record {
          entries = λ m l stays.
              let up_to : m ≤ i = omega arith in
              ⊎_elim (λ e. absurd (false≢true (sym stays ∙ ap (drops falls (entry_in before)) e ∙ goes))) (λ k. s.done.entries m k stays) (eq-or-lt_of_le up_to);
        };
        rest = λ m l. s.rest m (omega arith);
      }

  pub lowered_on : get_or falls (get_or order i 0) 0 < 256 → j < length order
      → Lowering falls before (set order j (get_or order i 0 - get_or falls (get_or order i 0) 0)) (i + 1) (j + 1)
  lowered_on f room =
      let lowered : ℕ = get_or order i 0 - get_or falls (get_or order i 0) 0 in
      let here : drops falls (entry_in before) i ≡ false = lt-leb 256 (get_or falls (get_or before i 0) 0) (omega (arith, fall_read)) in
      record {
        counted = ap (λ (n : ℕ). n + 1) s.counted ∙ sym (rank_stays (drops falls (entry_in before)) i here);
        done = record {
          entries = λ m l stays.
              let up_to : m ≤ i = omega arith in
              ⊎_elim
              (λ e.
              ap (λ (p : ℕ). get_or (set order j lowered) (rank (drops falls (entry_in before)) p) 0) e
              ∙ ap (entry_in (set order j lowered)) (sym s.counted)
              ∙ get_or-set_same order j lowered 0 room
              ∙ ap (λ (p : ℕ). p - get_or falls p 0) (read ∙ ap (entry_in before) (sym e)))
              (λ k.
              get_or-set_other order j (rank (drops falls (entry_in before)) m) lowered 0 (λ e. omega (arith, e, s.counted, rank_below (drops falls (entry_in before)) m i stays k))
              ∙ s.done.entries m k stays)
              (eq-or-lt_of_le up_to);
        };
        rest = λ m l. get_or-set_other order j m lowered 0 (λ e. omega (arith, e, not_past)) ∙ s.rest m (omega arith);
      }
