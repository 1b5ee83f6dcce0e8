-- A pass that takes lines out by a test: the first j places have what stays of the lines before place i, and from there on nothing is changed.
use Prim.Native.Nat.{ℕ, ◌+◌, ◌≤◌, ◌<◌}
use mathlib.Core.Path.{◌≡◌, refl, sym, ap, ◌∙◌, subst}
use mathlib.Core.Bool.{Bool, true, false}
use mathlib.Core.List.{List, [], ◌∷◌, ◌++◌}
use native.Mathlib.Nat.{le_refl}
use native.Mathlib.Omega.{arith}
use Rattle.gateway_rules.specs.declared.Line.{Line}
use Rattle.gateway.specs.State.{Lists, line_at, Whole, lines_in, put_at}
use Rattle.basics.specs.Lists.{any, without}
use Rattle.basics.proofs.Lists.{without_nothing}
use Rattle.gateway.proofs.Firsts.{left_out, kept_on}
use Rattle.gateway.proofs.Places.{put_last, put_elsewhere, put_whole}

pub record Kept (out : Line → Bool) (before there : Lists) (i j : ℕ) : Type 0 where
  pub whole : Whole there
  pub stay : lines_in j there ≡ without out (lines_in i before)
  pub rest : (n : ℕ) → i ≤ n → line_at there n ≡ line_at before n

-- Lines of which none goes stay where they stand.
pub none_gone : (out : Line → Bool) (before : Lists) (n : ℕ) → Whole before → any out (lines_in n before) ≡ false → Kept out before before n n
none_gone out before n w none = record {
  whole = w;
  stay = sym (without_nothing out (lines_in n before) none);
  rest = λ _ _. refl;
}

module _ (out : Line → Bool) (before there : Lists) (i j : ℕ) (l : Line) (k : Kept out before there i j) (at : l ≡ line_at there i) where
  here : l ≡ line_at before i
  here = at ∙ k.rest i (le_refl i)

  pub passed_over : out l ≡ true → Kept out before there (i + 1) j
  passed_over gone = record {
    whole = k.whole;
    stay = k.stay ∙ sym (left_out out i (line_at before) (sym (ap out here) ∙ gone));
    rest = λ n b. k.rest n (omega (arith, b));
  }

  pub kept_here : (after : Lists) → out l ≡ false → j ≤ i → i < 256 → after ≡ put_at j l there → Kept out before after (i + 1) (j + 1)
  kept_here after free b f e =
      let stays = kept_on out i (line_at before) (sym (ap out here) ∙ free) in
      record {
        whole = subst Whole (sym e) (put_whole there j l k.whole);
        stay = ap (lines_in (j + 1)) e
            ∙ put_last j there l k.whole (omega (arith, b, f))
            ∙ ap (λ (xs : List Line). xs ++ (l ∷ [])) k.stay
            ∙ ap (λ (x : Line). without out (lines_in i before) ++ (x ∷ [])) here
            ∙ sym stays;
        rest = λ n c. ap (λ (t : Lists). line_at t n) e ∙ put_elsewhere there j l n (λ z. omega (arith, z, b, c)) ∙ k.rest n (omega (arith, c));
      }
