-- The steps that are done, and the lines that are still to be put in.
use Prim.Native.Nat.{ℕ, suc, ◌+◌, ◌-◌, ◌≤◌, ◌<◌}
use mathlib.Core.Path.{◌≡◌, refl, sym, ap, ◌∙◌}
use mathlib.Core.Bool.{true}
use mathlib.Core.List.{List, [], ◌++◌}
use native.Mathlib.Numerals.{add-one}
use native.Mathlib.Omega.{arith}
use lib.ListN.{length, take}
use Rattle.std.specs.Prelude.{Result}
use Rattle.basics.proofs.Each.{each_length}
use Rattle.text.specs.declared.Page.{Page}
use Rattle.text.specs.Text.{wrote}
use Rattle.text.proofs.Laws.{Remains, remains_all, remains_next, remains_none}
use Rattle.can_rules.specs.Aliases.{Aliases}
use Rattle.can_rules.specs.Joining.{Begun}
use Rattle.can.specs.declared.Joining.{Joining}
use Rattle.can.specs.States.{begun_of, gathered_at, state_of}
use Rattle.framing.specs.Files.{step_count, steps_at, good_step, good_steps, size_at}
use Rattle.framing.specs.Shown.{Shown, shown_at}
use Rattle.framing.specs.Lines.{line_of, line_for, lines_from, step_lines}
use Rattle.framing.specs.Steps.{written_by, refusal_of, StepLeft}
use Rattle.framing.proofs.Good.{step_whole, steps_good}

-- ---- the joining state

-- As many senders are unfinished as are counted.
count_length : (j : Joining) → length (state_of j) ≡ j.count
unfolding state_of
count_length j = each_length j.count (λ (i : ℕ). begun_of (gathered_at j i))

-- ---- the lines of the steps from a place on

lines_none : (k : ℕ) (l : Aliases) (b : List Begun) (s : List ℕ) (at : ℕ) → lines_from 0 k l b s at ≡ []
unfolding lines_from
lines_none k l b s at = refl

lines_more : (n k : ℕ) (l : Aliases) (b : List Begun) (s : List ℕ) (at : ℕ)
    → lines_from (suc n) k l b s at ≡ line_for k (shown_at l b s at) ++ lines_from n (suc k) l (shown_at l b s at).next s (at + size_at s at)
unfolding lines_from
lines_more n k l b s at = refl

-- The line of a step's answer, with the bytes that the step leaves.
line_for_lem : (k : ℕ) (shown : Shown) (j : Joining) {done : Result ℕ ℕ} {out bytes : List ℕ} → StepLeft shown done (state_of j) out → bytes ≡ take (written_by done) out
    → line_of k (refusal_of done) bytes j.count ≡ line_for k shown
line_for_lem k shown j left e =
    let count = sym (count_length j) ∙ ap length left.next in
    λ i. line_of k (left.refusal i) ((e ∙ left.bytes) i) (count i)

-- ---- the steps done

-- Before step k, which stands at a place of the file.
pub record Running (l : Aliases) (file : List ℕ) (first : Page) (k at : ℕ) (b : List Begun) (page : Page) : Type 0 where
  pub inside : at ≤ length file
  pub count : k ≤ step_count file
  pub good : good_steps (step_count file - k) file at ≡ true
  pub rest : Remains first (step_lines l file) page (lines_from (step_count file - k) k l b file at)

pub running_start : (l : Aliases) (file : List ℕ) (page : Page) {at : ℕ} (j : Joining) → at ≡ steps_at file → state_of j ≡ []
    → steps_at file ≤ length file → good_steps (step_count file) file (steps_at file) ≡ true → page.at ≤ length page.text.now
    → Running l file page 0 at (state_of j) page
running_start l file page j z none h g e =
    let all : step_count file - 0 ≡ step_count file = omega arith in
    rw (z, none) (record { inside = h; count = omega arith; good = rw all g; rest = rw all (remains_all page (step_lines l file) e) })

module _ {l : Aliases} {file : List ℕ} {first : Page} {k at : ℕ} {b : List Begun} {page : Page} (r : Running l file first k at b page) where
  module _ (h : k < step_count file) where
    left : step_count file - k ≡ suc (step_count file - (k + 1))
    left = omega (arith, h)

    steps : (good_step file at ≡ true) × (good_steps (step_count file - (k + 1)) file (at + size_at file at) ≡ true)
    steps = steps_good file at (step_count file - (k + 1)) (ap (λ (n : ℕ). good_steps n file at) (sym left) ∙ r.good)

    pub running_good : good_step file at ≡ true
    running_good = steps.0

    pub running_whole : (14 ≤ size_at file at) × (at + size_at file at ≤ length file)
    running_whole = step_whole file at running_good

    lines_left : {line : List ℕ} {b' : List Begun} → line ≡ line_for k (shown_at l b file at) → b' ≡ (shown_at l b file at).next
        → lines_from (step_count file - k) k l b file at ≡ line ++ lines_from (step_count file - (k + 1)) (k + 1) l b' file (at + size_at file at)
    lines_left e f =
        ap (λ (n : ℕ). lines_from n k l b file at) left
        ∙ lines_more (step_count file - (k + 1)) k l b file at
        ∙ λ i. sym e i ++ lines_from (step_count file - (k + 1)) (sym (add-one k) i) l (sym f i) file (at + size_at file at)

    -- The step's line is put in, and the next step stands after it.
    pub running_next : (j : Joining) {done : Result ℕ ℕ} {refusal : ℕ} {out bytes : List ℕ} {page' : Page} {size : ℕ} → StepLeft (shown_at l b file at) done (state_of j) out
        → refusal ≡ refusal_of done → bytes ≡ take (written_by done) out
        → page' ≡ wrote page (line_of k refusal bytes j.count)
        → size ≡ size_at file at → Running l file first (k + 1) (at + size) (state_of j) page'
    running_next j {refusal = refusal} {bytes = bytes} s r₁ w e z =
        let lines = lines_left (ap (λ (n : ℕ). line_of k n bytes j.count) r₁ ∙ line_for_lem k (shown_at l b file at) j s w) s.next in
        rw z (record {
          inside = running_whole.1;
          count = omega (arith, h);
          good = steps.1;
          rest = remains_next (line_of k refusal bytes j.count) (rw lines at r.rest) e;
        })

  pub running_end : step_count file ≤ k → page ≡ wrote first (step_lines l file)
  running_end h =
      let none : step_count file - k ≡ 0 = omega (arith, h) in
      remains_none (rw (ap (λ (n : ℕ). lines_from n k l b file at) none ∙ lines_none k l b file at) at r.rest)
