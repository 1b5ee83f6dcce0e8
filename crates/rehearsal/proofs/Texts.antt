-- The parts of a line that may be a dash, and the digits of marks one after the other.
use Prim.Native.Nat.{ℕ, zero, suc, ◌+◌, ◌/◌, ◌%◌, ◌^◌, ◌≤◌, ◌<◌}
use mathlib.Core.Path.{◌≡◌, refl, sym, ap, ◌∙◌}
use mathlib.Core.Bool.{Bool, true, false, cond, ◌||◌, true≢false}
use mathlib.Core.List.{List, [], ◌∷◌, ◌++◌, append-nil}
use native.Mathlib.Omega.{arith}
use borrow.Author.Tests.{ne_eqb}
use lib.Dec.{eqb, leb}
use lib.ListN.{length, get_or, drop, drop_of_length-le}
use Rattle.std.specs.Prelude.{◌==◌}
use Rattle.std.proofs.lemmas.List.{at_drop_more}
use Rattle.text.specs.declared.Page.{Page}
use Rattle.text.specs.Text.{digit, decimal, decimal_up_to, wrote, or_dash}
use Rattle.text.proofs.Laws.{wrote_next}
use Rattle.rehearsal.specs.Lines.{digits_of}

-- ---- a dash for no marks

-- A number has a digit.
kept : (t : Bool) (d : ℕ) (xs ys : List ℕ) → or_dash (xs ++ ys) ≡ xs ++ ys → or_dash ((cond t (d ∷ []) [] ++ xs) ++ ys) ≡ (cond t (d ∷ []) [] ++ xs) ++ ys
kept true d xs ys e = refl
kept false d xs ys e = e

decimal_kept : (w n : ℕ) (ys : List ℕ) → or_dash (decimal_up_to (suc w) n ++ ys) ≡ decimal_up_to (suc w) n ++ ys
unfolding decimal_up_to
decimal_kept zero n ys = refl
decimal_kept (suc w) n ys =
    kept (eqb (suc w) 0 || leb (10 ^ suc w) n) (digit (n / 10 ^ suc w % 10)) (decimal_up_to (suc w) n) ys (decimal_kept w n ys)

pub no_marks : (s : List ℕ) → (length s == 0) ≡ true → or_dash (digits_of s) ≡ 45 ∷ []
unfolding digits_of
no_marks [] h = refl
no_marks (x ∷ s) h = absurd (true≢false (sym h ∙ ne_eqb (suc (length s)) 0 (λ e. omega (arith, e))))

pub some_marks : (s : List ℕ) → (length s == 0) ≡ false → or_dash (digits_of s) ≡ digits_of s
unfolding digits_of
some_marks [] h = absurd (true≢false h)
some_marks (x ∷ s) h = decimal_kept 19 x (digits_of s)

some_passed : (s : List ℕ) {i : ℕ} → (length s == 0) ≡ false → length s ≤ i → 0 < i
some_passed [] e h = absurd (true≢false e)
some_passed (x ∷ s) e h = omega (arith, h)

-- The digits of the marks from i on are still to be put in.
pub record Marked (first : Page) (marks : List ℕ) (i : ℕ) (page : Page) : Type 0 where
  pub rest : wrote page (digits_of (drop i marks)) ≡ wrote first (digits_of marks)
  pub inside : 0 < i → page ≡ wrote page []

module _ {first : Page} {marks : List ℕ} {i : ℕ} {page : Page} (m : Marked first marks i page) where
  pub marked_next : {next : Page} → i < length marks → next ≡ wrote page (decimal (get_or marks i 0)) → Marked first marks (i + 1) next
  unfolding digits_of
  marked_next {next} h e =
      let mark : List ℕ = decimal (get_or marks i 0) in
      let more : digits_of (drop i marks) ≡ mark ++ digits_of (drop (i + 1) marks) = at_drop_more digits_of marks i 0 h in
      record {
        rest = ap (λ (p : Page). wrote p (digits_of (drop (i + 1) marks))) e ∙ wrote_next page mark (digits_of (drop (i + 1) marks)) ∙ ap (wrote page) (sym more) ∙ m.rest;
        inside = λ _. e ∙ ap (wrote page) (sym (append-nil mark)) ∙ sym (wrote_next page mark []) ∙ ap (λ (p : Page). wrote p []) (sym e);
      }

  pub marked_all : length marks ≤ i → (length marks == 0) ≡ false → page ≡ wrote first (or_dash (digits_of marks))
  unfolding digits_of
  marked_all h some =
      let none : digits_of (drop i marks) ≡ [] = ap digits_of (drop_of_length-le marks {i = i} h) in
      m.inside (some_passed marks some h) ∙ ap (wrote page) (sym none) ∙ m.rest ∙ ap (wrote first) (sym (some_marks marks some))
