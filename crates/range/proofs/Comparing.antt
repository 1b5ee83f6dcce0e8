-- R5: what comparing two blocks answers is true of their events, and nothing else is; once over k, from R4.
use Prim.Native.Nat.{ℕ, ◌*◌, ◌/◌, ◌^◌, ◌≤◌, ◌<◌}
use mathlib.Core.Path.{◌≡◌, refl, sym, ap, ap₂, ◌∙◌, subst}
use mathlib.Core.Logic.{◌↔◌, ◌⊎◌, ⊎_elim}
use mathlib.Core.Bool.{Bool, true, false, ◌&&◌, true≢false}
use native.Mathlib.Nat.{le_refl, le_trans}
use native.Mathlib.Omega.{arith}
use borrow.Author.Tests.{leb-true, leb-false, le-leb}
use lib.Dec.{leb, eqb}
use lib.Pow.{pow_pos, pow-lt}
use Rattle.basics.proofs.Bools.{both, same_truth}
use Rattle.range.specs.declared.Block.{Block}
use Rattle.range.specs.declared.Comparison.{Comparison}
use Rattle.range.specs.declared.Comparison.TheVariants.{Equal, FirstInside, SecondInside, Apart}
use Rattle.range.specs.Range.{is_block, in_block, last, inside, Inside}
use Rattle.range.specs.Comparing.{lying, comparison, comparison_told, Blocks, Lies}
use Rattle.range.specs.Answer.{Barred}
use Rattle.std.specs.Prelude.{Result, Ok, Err}
use Rattle.basics.specs.declared.Refusal.{Refusal}
use Rattle.basics.specs.declared.Refusal.TheVariants.{NoBlock}
use Rattle.basics.specs.Refusals.{Told, told, refused}
use Rattle.range.proofs.Laws.{in_block_between, in_block_above}
use Rattle.range.proofs.Nested.{inside_or_apart, nested_or_apart}
use Rattle.range.proofs.Refusals.{either_fails, barred_exactly}
use Rattle.basics.proofs.Numbers.{refusal_once}

-- ---- one block inside another

inside_between : (a b : Block) → (inside a b ≡ true) ↔ ((b.start ≤ a.start) × (last a ≤ last b))
unfolding inside
inside_between a b = (
  λ t. let h = both (leb b.start a.start) (leb (last a) (last b)) t in (leb-true b.start a.start h.0, leb-true (last a) (last b) h.1),
  λ h. rw (le-leb b.start a.start h.0, le-leb (last a) (last b) h.1),
)

-- A block holds its first number and its last.
first_in_lem : (b : Block) → in_block b b.start ≡ true
first_in_lem b = (in_block_between b b.start).1 (le_refl b.start, omega arith)

last_in : (b : Block) → in_block b (last b) ≡ true
last_in b = (in_block_between b (last b)).1 (omega arith, le_refl (last b))

pub inside_holds : (a b : Block) (e : ℕ) → inside a b ≡ true → in_block a e ≡ true → in_block b e ≡ true
inside_holds a b e i t =
    let w = (inside_between a b).0 i in
    let h = (in_block_between a e).0 t in
    (in_block_between b e).1 (le_trans w.0 h.0, le_trans h.1 w.1)

pub inside_exactly : (a b : Block) → (inside a b ≡ true) ↔ Inside a b
inside_exactly a b = (
  λ i e. inside_holds a b e i,
  λ i.
      (inside_between a b).1 (
        ((in_block_between b a.start).0 (i a.start (first_in_lem a))).0,
        ((in_block_between b (last a)).0 (i (last a) (last_in a))).1,
      ),
)

pub inside_self : (b : Block) → inside b b ≡ true
inside_self b = (inside_between b b).1 (le_refl b.start, le_refl (last b))

pub inside_more : (a b c : Block) → inside a b ≡ true → inside b c ≡ true → inside a c ≡ true
inside_more a b c i j =
    let v = (inside_between a b).0 i in
    let w = (inside_between b c).0 j in
    (inside_between a c).1 (le_trans w.0 v.0, le_trans v.1 w.1)

-- Blocks inside each other are one.
size_once : (j k : ℕ) → 2 ^ j ≡ 2 ^ k → j ≡ k
size_once j k e = go (leb j k) refl (leb k j) refl
  where
    less : (i l : ℕ) → leb i l ≡ false → 2 ^ l < 2 ^ i
    less i l f = pow-lt (leb-false i l f)

    go : (t : Bool) → leb j k ≡ t → (u : Bool) → leb k j ≡ u → j ≡ k
    go true f true g = omega (arith, leb-true j k f, leb-true k j g)
    go true f false g = let z : ⊥ = omega (arith, less k j g) in absurd z
    go false f u g = let z : ⊥ = omega (arith, less j k f) in absurd z

pub inside_both : (a b : Block) → inside a b ≡ true → inside b a ≡ true → a ≡ b
inside_both a b i j =
    let v = (inside_between a b).0 i in
    let w = (inside_between b a).0 j in
    let start : a.start ≡ b.start = omega (arith, v.0, w.0) in
    let size = size_once a.k b.k (omega (arith, v, w, pow_pos a.k, pow_pos b.k)) in
    λ z. record { start = start z; k = size z }

-- ---- what the code tests

-- A block that is larger is not inside; one that is not is where its start is one of the other's numbers.
pub larger_not_inside : (a b : Block) → b.k < a.k → inside a b ≡ false
larger_not_inside a b l = go (inside a b) refl
  where
    go : (t : Bool) → inside a b ≡ t → inside a b ≡ false
    go true i = let w = (inside_between a b).0 i in let z : ⊥ = omega (arith, w, pow-lt l, pow_pos b.k) in absurd z
    go false i = i

pub inside_by_start : (a b : Block) → is_block a ≡ true → is_block b ≡ true → a.k ≤ b.k → inside a b ≡ eqb (a.start / 2 ^ b.k * 2 ^ b.k) b.start
inside_by_start a b v w l =
    same_truth (inside a b) (in_block b a.start) (λ i. inside_holds a b a.start i (first_in_lem a)) back
    ∙ in_block_above b a.start w
  where
    back : in_block b a.start ≡ true → inside a b ≡ true
    back t = (inside_exactly a b).1 (⊎_elim (λ i. i) (λ none. absurd (none a.start (first_in_lem a) t)) (inside_or_apart a b v w l))

-- ---- the answers

pub compared : (a b : Block) → is_block a ≡ true → is_block b ≡ true → comparison a b ≡ Ok (lying (inside a b) (inside b a))
unfolding comparison
compared a b v w = rw (v, w)

pub not_compared : (a b : Block) → (is_block a && is_block b) ≡ false → comparison a b ≡ Err NoBlock
unfolding comparison
not_compared a b f = rw f

not_inside : (a b : Block) → (Inside a b → ⊥) → inside a b ≡ false
not_inside a b none = go (inside a b) refl
  where
    go : (t : Bool) → inside a b ≡ t → inside a b ≡ false
    go true i = absurd (none ((inside_exactly a b).0 i))
    go false i = i

inside_not : (a b : Block) → inside a b ≡ false → Inside a b → ⊥
inside_not a b f i = true≢false (sym ((inside_exactly a b).1 i) ∙ f)

-- What is answered is true.
lies_so : (a b : Block) → Lies a b (comparison a b)
lies_so a b = go (is_block a && is_block b) refl
  where
    by_inside : Blocks a b → (i : Bool) → inside a b ≡ i → (j : Bool) → inside b a ≡ j → Lies a b (Ok (lying i j))
    by_inside v true f true g = (v, (inside_exactly a b).0 f, (inside_exactly b a).0 g)
    by_inside v true f false g = (v, (inside_exactly a b).0 f, inside_not b a g)
    by_inside v false f true g = (v, inside_not a b f, (inside_exactly b a).0 g)
    by_inside v false f false g =
        (v, ⊎_elim (λ nested. absurd (⊎_elim (inside_not a b f) (inside_not b a g) nested)) (λ apart. apart) (nested_or_apart a b v.0 v.1))

    go : (t : Bool) → (is_block a && is_block b) ≡ t → Lies a b (comparison a b)
    go true e =
        let v = both (is_block a) (is_block b) e in
        subst (Lies a b) (sym (compared a b v.0 v.1)) (by_inside v (inside a b) refl (inside b a) refl)
    go false e = subst (Lies a b) (sym (not_compared a b e)) (refl, (either_fails (is_block a) (is_block b) (barred_exactly a) (barred_exactly b)).0 e)

-- What is true is answered.
answered_so : (a b : Block) (c : Result Comparison Refusal) → Lies a b c → comparison a b ≡ c
answered_so a b (Ok Equal) (v, i, j) = compared a b v.0 v.1 ∙ ap₂ (λ (i j : Bool). Ok (lying i j)) ((inside_exactly a b).1 i) ((inside_exactly b a).1 j)
answered_so a b (Ok FirstInside) (v, i, j) = compared a b v.0 v.1 ∙ ap₂ (λ (i j : Bool). Ok (lying i j)) ((inside_exactly a b).1 i) (not_inside b a j)
answered_so a b (Ok SecondInside) (v, i, j) = compared a b v.0 v.1 ∙ ap₂ (λ (i j : Bool). Ok (lying i j)) (not_inside a b i) ((inside_exactly b a).1 j)
answered_so a b (Ok Apart) (v, none) =
    compared a b v.0 v.1
    ∙ ap₂ (λ (i j : Bool). Ok (lying i j)) (not_inside a b (λ i. none a.start (first_in_lem a) (i a.start (first_in_lem a)))) (not_inside b a (λ i. none b.start (i b.start (first_in_lem b)) (first_in_lem b)))
answered_so a b (Err r) (n, either) = not_compared a b ((either_fails (is_block a) (is_block b) (barred_exactly a) (barred_exactly b)).1 either) ∙ ap Err (sym n)

-- Each answer is given exactly when it is true of the events, the refusal exactly when document 01 gives 14.
pub compared_exactly : (a b : Block) (c : Result Comparison Refusal) → (comparison a b ≡ c) ↔ Lies a b c
compared_exactly a b c = (λ e. subst (Lies a b) e (lies_so a b), answered_so a b c)

-- So exactly one of the answers is true.
pub one_lies : (a b : Block) → (c : Result Comparison Refusal) × Lies a b c × ((d : Result Comparison Refusal) → Lies a b d → d ≡ c)
one_lies a b = (comparison a b, lies_so a b, λ d l. sym (answered_so a b d l))

-- In numbers: 14 exactly when document 01 says, and the four answers from 1 on.
told_14 : (c : Result Comparison Refusal) → (comparison_told c).refusal ≡ 14 → c ≡ Err NoBlock
told_14 (Ok c) e = let z : ⊥ = omega (arith, e) in absurd z
told_14 (Err r) e = ap Err (refusal_once r NoBlock e)

pub comparison_14 : (a b : Block) → ((comparison_told (comparison a b)).refusal ≡ 14) ↔ (Barred a ⊎ Barred b)
comparison_14 a b = (
  λ e. ((compared_exactly a b (Err NoBlock)).0 (told_14 (comparison a b) e)).1,
  λ either. ap (λ (c : Result Comparison Refusal). (comparison_told c).refusal) (answered_so a b (Err NoBlock) (refl, either)),
)

abbrev numbered : ℕ → ℕ → ℕ → ℕ → Told ℕ
numbered start k other j = comparison_told (comparison (record { start = start; k = k }) (record { start = other; k = j }))

pub each_number : (numbered 4 2 4 2 ≡ told 1) × (numbered 6 1 4 2 ≡ told 2) × (numbered 4 2 6 1 ≡ told 3) × (numbered 4 2 8 2 ≡ told 4) × (numbered 2 2 4 2 ≡ refused 14 0) × (numbered 4 2 0 65 ≡ refused 14 0)
unfolding comparison is_block inside
each_number = (refl, refl, refl, refl, refl, refl)

-- Equal blocks are the same start and size.
pub equal_same : (a b : Block) → (comparison a b ≡ Ok Equal) ↔ (Blocks a b × (a ≡ b))
equal_same a b = (
  λ e. let w = (compared_exactly a b (Ok Equal)).0 e in (w.0, inside_both a b ((inside_exactly a b).1 w.1) ((inside_exactly b a).1 w.2)),
  λ w. (compared_exactly a b (Ok Equal)).1 (
    w.0,
    subst (Inside a) w.1 (λ _ t. t),
    subst (λ (x : Block). Inside x a) w.1 (λ _ t. t),
  ),
)

-- ---- what the code's answers say

-- Whether the first is inside the second, by the answer.
abbrev pub first_in : Result Comparison Refusal → Bool
first_in (Ok Equal) = true
first_in (Ok FirstInside) = true
first_in (Ok SecondInside) = false
first_in (Ok Apart) = false
first_in (Err r) = false

first_told : (i j : Bool) → first_in (Ok (lying i j)) ≡ i
first_told true true = refl
first_told true false = refl
first_told false true = refl
first_told false false = refl

pub comparison_says : (a b : Block) (r c : Result Comparison Refusal) → is_block a ≡ true → is_block b ≡ true → r ≡ comparison a b → r ≡ c → inside a b ≡ first_in c
comparison_says a b r c v w h k = sym (first_told (inside a b) (inside b a)) ∙ ap first_in (sym (compared a b v w) ∙ sym h ∙ k)
