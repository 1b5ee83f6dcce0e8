-- The calls that are done, and the lines that are still to be put in.
use Prim.Native.Nat.{ℕ, zero, suc, ◌+◌, ◌-◌, ◌≤◌, ◌<◌}
use mathlib.Core.Path.{◌≡◌, refl, sym, ap, ◌∙◌}
use mathlib.Core.Bool.{true}
use mathlib.Core.List.{List, [], ◌++◌}
use native.Mathlib.Numerals.{add-one}
use native.Mathlib.Omega.{arith}
use borrow.Author.Tests.{le-leb, lt-leb, leb-true}
use lib.ListN.{length, take}
use Rattle.text.specs.declared.Page.{Page}
use Rattle.text.specs.Text.{wrote}
use Rattle.text.proofs.Laws.{Remains, remains_all, remains_next, remains_none}
use Rattle.node_rules.specs.Boards.{Board}
use Rattle.node_rules.specs.Calls.{Outcome}
use Rattle.node.specs.declared.Answer.{Answer}
use Rattle.rehearsal.specs.Files.{good_call, good_calls, most_calls, size_at, outcome_at}
use Rattle.rehearsal.specs.Lines.{line_of, line_for, lines_from}
use Rattle.rehearsal.specs.Calls.{CallLeft}
use Rattle.rehearsal.proofs.Good.{Called, good_called, calls_none, calls_good}

-- ---- the lines of the calls from a place on

module _ (b : Board) (s : List ℕ) (at : ℕ) where
  lines_end : (n k : ℕ) → length s ≤ at → lines_from n k b s at ≡ []
  unfolding lines_from
  lines_end zero k h = refl
  lines_end (suc n) k h = rw (le-leb (length s) at h)

  lines_next : (n k : ℕ) → at < length s
      → lines_from (suc n) k b s at ≡ line_for k (outcome_at b s at) ++ lines_from n (suc k) (outcome_at b s at).next s (at + size_at s at)
  unfolding lines_from
  lines_next n k h = rw (lt-leb (length s) at h)

-- The line of a call's answer, with the bytes and the marks that the call leaves.
line_for_lem : (k : ℕ) (o : Outcome) {a : Answer} {b : Board} {out bytes marks : List ℕ} → CallLeft o a b out → bytes ≡ take a.bytes out → marks ≡ b.slots.marks
    → line_of k a.refusal bytes a.matches a.node.state marks ≡ line_for k o
line_for_lem k o left e f =
    let bytes = e ∙ left.bytes in
    let marks = f ∙ ap (λ (b : Board). b.slots.marks) left.next in
    λ i. line_of k (left.answered i).refusal (bytes i) (left.answered i).matches (left.answered i).node.state (marks i)

-- ---- the calls done

-- Before call k, which stands at a place of the file.
pub record Running (file : List ℕ) (b₀ : Board) (at₀ : ℕ) (first : Page) (k at : ℕ) (b : Board) (page : Page) : Type 0 where
  pub inside : at ≤ length file
  pub count : k ≤ most_calls
  pub good : good_calls (most_calls - k) file at ≡ true
  pub rest : Remains first (lines_from most_calls 0 b₀ file at₀) page (lines_from (most_calls - k) k b file at)

pub running_start : (file : List ℕ) (b : Board) (at : ℕ) (page : Page) → at ≤ length file → good_calls most_calls file at ≡ true
    → page.at ≤ length page.text.now → Running file b at page 0 at b page
running_start file b at page h g e =
    record { inside = h; count = omega arith; good = g; rest = remains_all page (lines_from most_calls 0 b file at) e }

module _ {file : List ℕ} {b₀ : Board} {at₀ : ℕ} {first : Page} {k at : ℕ} {b : Board} {page : Page} (r : Running file b₀ at₀ first k at b page) where
  -- A call there is not one too many.
  pub running_more : at < length file → k < most_calls
  running_more h = go (most_calls - k) refl r.good
    where
      go : (n : ℕ) → most_calls - k ≡ n → good_calls n file at ≡ true → k < most_calls
      go zero e g = absurd (omega (arith, h, leb-true (length file) at (sym (calls_none file at) ∙ g)))
      go (suc n) e g = omega (arith, e)

  left : at < length file → most_calls - k ≡ suc (most_calls - (k + 1))
  left h = omega (arith, running_more h)

  calls : (h : at < length file) → (good_call file at ≡ true) × (good_calls (most_calls - (k + 1)) file (at + size_at file at) ≡ true)
  calls h = calls_good file at (most_calls - (k + 1)) h (ap (λ (n : ℕ). good_calls n file at) (sym (left h)) ∙ r.good)

  pub running_good : at < length file → good_call file at ≡ true
  running_good h = (calls h).0

  pub running_called : at < length file → Called file at
  running_called h = good_called file at (running_good h)

  lines_left : {line : List ℕ} {b' : Board} → at < length file → line ≡ line_for k (outcome_at b file at) → b' ≡ (outcome_at b file at).next
      → lines_from (most_calls - k) k b file at ≡ line ++ lines_from (most_calls - (k + 1)) (k + 1) b' file (at + size_at file at)
  lines_left h e f =
      ap (λ (n : ℕ). lines_from n k b file at) (left h)
      ∙ lines_next b file at (most_calls - (k + 1)) k h
      ∙ λ i. sym e i ++ lines_from (most_calls - (k + 1)) (sym (add-one k) i) (sym f i) file (at + size_at file at)

  -- The call's line is put in, and the next call stands after it.
  pub running_next : {a : Answer} {b' : Board} {out bytes marks : List ℕ} {page' : Page} {size : ℕ} → at < length file
      → CallLeft (outcome_at b file at) a b' out → bytes ≡ take a.bytes out → marks ≡ b'.slots.marks
      → page' ≡ wrote page (line_of k a.refusal bytes a.matches a.node.state marks)
      → size ≡ size_at file at → Running file b₀ at₀ first (k + 1) (at + size) b' page'
  running_next {a} {bytes = bytes} {marks = marks} h l w m e z =
      let lines = lines_left h (line_for_lem k (outcome_at b file at) l w m) l.next in
      rw z (record {
        inside = (running_called h).whole;
        count = omega (arith, running_more h);
        good = (calls h).1;
        rest = remains_next (line_of k a.refusal bytes a.matches a.node.state marks) (rw lines at r.rest) e;
      })

  pub running_end : length file ≤ at → page ≡ wrote first (lines_from most_calls 0 b₀ file at₀)
  running_end h = remains_none (rw (lines_end b file at (most_calls - k) k h) at r.rest)

  -- After the most calls there is nothing left.
  pub running_full : most_calls ≤ k → length file ≤ at
  running_full h =
      let none : most_calls - k ≡ 0 = omega (arith, h) in
      leb-true (length file) at (sym (calls_none file at) ∙ ap (λ (n : ℕ). good_calls n file at) (sym none) ∙ r.good)
