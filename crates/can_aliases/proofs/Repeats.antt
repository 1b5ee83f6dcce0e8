-- A number that stands twice, looked for from the end of a list on, with a mark for the low bits of each number that was met.
use Prim.Native.Nat.{ℕ, zero, suc, ◌-◌, ◌%◌, ◌≤◌, ◌<◌}
use mathlib.Core.Path.{◌≡◌, refl, sym, ap, ap₂, ◌∙◌}
use mathlib.Core.Bool.{Bool, true, false, ◌||◌, or-true, false≢true}
use mathlib.Core.List.{List, [], ◌∷◌}
use native.Mathlib.Nat.{mod-lt}
use native.Mathlib.Omega.{arith}
use borrow.Author.Tests.{eqb-true, eqb-false}
use lib.Dec.{eqb, lit<}
use lib.ListN.{length, take, drop, get_or, set, length-drop, length-set}
use lib.Seq.{drop-cons, take_all, get_or-set_same, get_or-set_other}
use Rattle.std.specs.List.{list_any}
use Rattle.basics.specs.Lists.{any}
use Rattle.can_rules.specs.Aliases.{repeats}

-- Whether a number was met.
abbrev pub among : List ℕ → ℕ → Bool
among met x = any (λ y. eqb y x) met

abbrev pub low : ℕ → ℕ
low x = x % 0x1000

-- No number was met twice, and the low bits of each are marked.
pub record Met (met marks : List ℕ) : Type 0 where
  pub once : repeats met ≡ false
  pub marked : (x : ℕ) → among met x ≡ true → get_or marks (low x) 0 ≡ 0 → ⊥
  pub room : length marks ≡ 0x1000

pub met_none : (marks : List ℕ) → length marks ≡ 0x1000 → Met [] marks
met_none marks e = (record { once = refl; marked = λ x h. absurd (false≢true h); room = e })

-- One more is met that is none of those that were: its mark is set, whatever it was.
module _ {met marks : List ℕ} (m : Met met marks) (x : ℕ) where
  -- It is none of them where its mark is not set, and where it was looked for.
  pub new : ((get_or marks (low x) 0 ≡ 0 → ⊥) → among met x ≡ false) → among met x ≡ false
  new asked = go (among met x) refl
    where
      go : (t : Bool) → among met x ≡ t → t ≡ false
      go true h = sym h ∙ asked (m.marked x h)
      go false h = refl

  pub met_more : among met x ≡ false → (v : ℕ) → (v ≡ 0 → ⊥) → Met (x ∷ met) (set marks (low x) v)
  met_more e v some = record {
    once = ap₂ (λ (s t : Bool). s || t) e m.once;
    marked = λ y h. go y (eqb (low y) (low x)) refl h;
    room = length-set marks (low x) v ∙ m.room;
  }
    where
      inside : low x < length marks
      inside = omega (arith, mod-lt x {m = 0x1000} (lit< tt), m.room)

      other : (y : ℕ) (t : Bool) → eqb x y ≡ t → (low y ≡ low x → ⊥) → (t || among met y) ≡ true → get_or marks (low y) 0 ≡ 0 → ⊥
      other y true f n h z = n (ap low (sym (eqb-true x y f)))
      other y false f n h z = m.marked y h z

      go : (y : ℕ) (t : Bool) → eqb (low y) (low x) ≡ t → (eqb x y || among met y) ≡ true → get_or (set marks (low x) v) (low y) 0 ≡ 0 → ⊥
      go y true f h z = some (sym (get_or-set_same marks (low x) v 0 inside) ∙ ap (λ (k : ℕ). get_or (set marks (low x) v) k 0) (sym (eqb-true (low y) (low x) f)) ∙ z)
      go y false f h z =
          let n = eqb-false (low y) (low x) f in
          other y (eqb x y) refl n h (sym (get_or-set_other marks (low x) (low y) v 0 n) ∙ z)

as_searched : (l : List ℕ) (x : ℕ) → list_any (λ y. eqb y x) l ≡ among l x
as_searched [] x = refl
as_searched (y ∷ ys) x = ap (λ (t : Bool). eqb y x || t) (as_searched ys x)

-- ---- from a place to the one before it

-- A repeat in what is left of a list is one of the list.
repeats_in_rest : (l : List ℕ) (i : ℕ) → repeats (drop i l) ≡ true → repeats l ≡ true
repeats_in_rest l zero h = h
repeats_in_rest [] (suc i) h = h
repeats_in_rest (x ∷ xs) (suc i) h = ap (λ (t : Bool). among xs x || t) (repeats_in_rest xs i h) ∙ or-true (among xs x)

module _ (l : List ℕ) (i : ℕ) (h : 0 < i) (g : i ≤ length l) where
  pub before : get_or l (i - 1) 0 ∷ drop i l ≡ drop (i - 1) l
  before = let next : suc (i - 1) ≡ i = omega arith in sym (drop-cons l (i - 1) 0 (omega arith) ∙ ap (λ (k : ℕ). get_or l (i - 1) 0 ∷ drop k l) next)

  -- A number that stands among those after it stands twice, and one that passes a test is one that does.
  pub met_twice : among (drop i l) (get_or l (i - 1) 0) ≡ true → repeats l ≡ true
  met_twice e = repeats_in_rest l (i - 1) (ap repeats (sym before) ∙ ap (λ (t : Bool). t || repeats (drop i l)) e)

-- What is left of a list, as it is lent to the library's search.
pub stands_left : (l : List ℕ) (i k x : ℕ) → k ≡ i → list_any (λ y. eqb y x) (take (length l - k) (drop k l)) ≡ among (drop i l) x
stands_left l i k x e =
    as_searched (take (length l - k) (drop k l)) x
    ∙ ap (λ (r : List ℕ). among r x) (take_all (length l - k) (drop k l) (omega (arith, length-drop k l)) ∙ ap (λ (n : ℕ). drop n l) e)
