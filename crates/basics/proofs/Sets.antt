-- A set as a number: bit i says whether i is in it.
use Prim.Native.Nat.{ℕ, zero, suc, ◌+◌, ◌-◌, ◌*◌, ◌/◌, ◌%◌, ◌^◌, ◌<◌}
use mathlib.Core.Path.{◌≡◌, refl, sym, ap, ap₂, ◌∙◌, subst}
use mathlib.Core.Logic.{⊎_elim}
use mathlib.Core.Bool.{Bool, true, false, cond, ◌||◌, or-false, or-true}
use native.Mathlib.Nat.{le_refl, le_trans, le-suc, pow-suc, mod-lt, mod-add-div', div-lt_iff_lt-mul, mul-add-div_right, eq-or-lt_of_le, le_of_suc-le-suc, not-suc-le-zero, add_comm, add-zero, zero-mul, one-mul}
use native.Mathlib.Numerals.{add-one}
use native.Mathlib.Omega.{arith}
use borrow.Author.Tests.{eq-eqb, ne_eqb, eqb-true}
use lib.Dec.{eqb}
use lib.Pow.{pow_pos, pow-add, high, field, mod-mod-pow}
use Rattle.numbers.specs.Bits.{bit}
use Rattle.basics.specs.Sets.{set_of}

-- The empty set is 0.
pub nobody : (n : ℕ) → set_of n (λ _. false) ≡ 0
unfolding set_of
nobody zero = refl
nobody (suc n) = ap (λ (x : ℕ). x + 0) (nobody n)

pub set_below : (n : ℕ) (to : ℕ → Bool) → set_of n to < 2 ^ n
unfolding set_of
set_below zero to = omega arith
set_below (suc n) to = go (to n) (set_below n to)
  where
    go : (t : Bool) → set_of n to < 2 ^ n → set_of n to + cond t (2 ^ n) 0 < 2 ^ suc n
    go true h = omega (arith, pow-suc 2 n)
    go false h = omega (arith, pow-suc 2 n)

-- The highest bit, and those below it.
top_bit : (n x : ℕ) (t : Bool) → x < 2 ^ n → eqb (bit n (x + cond t (2 ^ n) 0)) 1 ≡ t
top_bit n x true h =
    let sum : x + 2 ^ n ≡ 1 * 2 ^ n + x = omega arith in
    eq-eqb (bit n (x + 2 ^ n)) 1 (ap (λ (y : ℕ). y / 2 ^ n % 2) sum ∙ ap (λ (y : ℕ). y % 2) (high 1 n h))
top_bit n x false h =
    let sum : x + 0 ≡ 0 * 2 ^ n + x = omega arith in
    ap (λ (y : ℕ). eqb (y % 2) 1) (ap (λ (y : ℕ). y / 2 ^ n) sum ∙ high 0 n h)

low_bit : (n p x : ℕ) (t : Bool) → p < n → bit p (x + cond t (2 ^ n) 0) ≡ bit p x
low_bit n p x true l =
    let j : ℕ = n - suc p in
    let width : suc j + p ≡ n = omega arith in
    let whole : 2 ^ n ≡ 2 ^ j * 2 * 2 ^ p = ap (λ (k : ℕ). 2 ^ k) (sym width) ∙ pow-add 2 (suc j) p ∙ ap (λ (y : ℕ). y * 2 ^ p) (pow-suc 2 j) in
    let sum : x + 2 ^ n ≡ 2 ^ j * 2 * 2 ^ p + x = ap (λ (y : ℕ). x + y) whole ∙ add_comm x (2 ^ j * 2 * 2 ^ p) in
    let quotient = ap (λ (y : ℕ). y / 2 ^ p) sum ∙ mul-add-div_right (pow_pos p) (2 ^ j * 2) x in
    ap (λ (y : ℕ). y % 2) quotient ∙ omega arith
low_bit n p x false l = ap (bit p) (add-zero x)

-- Bit p of the set is whether p is in it.
pub member_of_set : (n : ℕ) (to : ℕ → Bool) (p : ℕ) → p < n → eqb (bit p (set_of n to)) 1 ≡ to p
unfolding set_of
member_of_set zero to p l = absurd (not-suc-le-zero l)
member_of_set (suc n) to p l =
    ⊎_elim (λ e. subst (λ (x : ℕ). eqb (bit x (set_of n to + cond (to n) (2 ^ n) 0)) 1 ≡ to x) (sym e) (top_bit n (set_of n to) (to n) (set_below n to)))
    (λ k. ap (λ (y : ℕ). eqb y 1) (low_bit n p (set_of n to) (to n) k) ∙ member_of_set n to p k)
    (eq-or-lt_of_le (le_of_suc-le-suc l))

-- ---- sets that are put together

-- A digit that is 0 or 1, at its place.
top_digit : (d w : ℕ) → d < 2 → cond (eqb (d % 2) 1) w 0 ≡ d * w
top_digit zero w h = sym (zero-mul w)
top_digit (suc zero) w h = sym (one-mul w)
top_digit (suc (suc d)) w h = absurd (not-suc-le-zero (le_of_suc-le-suc (le_of_suc-le-suc h)))

-- The bits below the n lowest are those of the rest.
bit_low : (x n p : ℕ) → p < n → bit p (x % 2 ^ n) ≡ bit p x
bit_low x n p l =
    let j : ℕ = n - suc p in
    let width : suc j + p ≡ n = omega arith in
    let part : x % 2 ^ n / 2 ^ p ≡ x / 2 ^ p % 2 ^ suc j = ap (λ (k : ℕ). x % 2 ^ k / 2 ^ p) (sym width) ∙ field x (suc j) p in
    ap (λ (y : ℕ). y % 2) part ∙ ap (λ (k : ℕ). x / 2 ^ p % 2 ^ k % 2) (sym (add-one j)) ∙ mod-mod-pow (x / 2 ^ p) j 1

pub set_ext : (n : ℕ) (f g : ℕ → Bool) → ((p : ℕ) → p < n → f p ≡ g p) → set_of n f ≡ set_of n g
unfolding set_of
set_ext zero f g h = refl
set_ext (suc n) f g h =
    ap₂ (λ (x : ℕ) (t : Bool). x + cond t (2 ^ n) 0) (set_ext n f g (λ p l. h p (le_trans l (le-suc n)))) (h n (le_refl (suc n)))

-- A number is the set of its bits.
pub set_of_bits : (n x : ℕ) → x < 2 ^ n → set_of n (λ p. eqb (bit p x) 1) ≡ x
unfolding set_of
set_of_bits zero x h = omega arith
set_of_bits (suc n) x h =
    let low = x % 2 ^ n in
    let below : low < 2 ^ n = mod-lt x (pow_pos n) in
    let whole : low + x / 2 ^ n * 2 ^ n ≡ x = mod-add-div' x (2 ^ n) in
    let one : x / 2 ^ n < 2 = (div-lt_iff_lt-mul (pow_pos n)).1 (omega (arith, pow-suc 2 n)) in
    let top : cond (eqb (x / 2 ^ n % 2) 1) (2 ^ n) 0 ≡ x / 2 ^ n * 2 ^ n = top_digit (x / 2 ^ n) (2 ^ n) one in
    let rest : set_of n (λ p. eqb (bit p x) 1) ≡ low
    = set_ext n (λ p. eqb (bit p x) 1) (λ p. eqb (bit p low) 1) (λ p l. ap (λ (b : ℕ). eqb b 1) (sym (bit_low x n p l))) ∙ set_of_bits n low below in
    ap₂ (λ (a b : ℕ). a + b) rest top ∙ whole

-- What is not in a set is put in by adding its bit; what is there changes nothing.
pub set_put : (n : ℕ) (f : ℕ → Bool) (q : ℕ) → q < n → f q ≡ false → set_of n f + 2 ^ q ≡ set_of n (λ p. f p || eqb q p)
unfolding set_of
set_put zero f q l e = absurd (not-suc-le-zero l)
set_put (suc n) f q l e =
    ⊎_elim
    (λ s.
    let here = ap f (sym s) ∙ e in
    let same = set_ext n f (λ p. f p || eqb q p) (λ p k. sym (ap (λ (t : Bool). f p || t) (ne_eqb q p (λ z. omega (arith, s, k, z))) ∙ or-false (f p))) in
    ap (λ (k : ℕ). set_of n f + cond (f n) (2 ^ n) 0 + 2 ^ k) s
    ∙ ap (λ (t : Bool). set_of n f + cond t (2 ^ n) 0 + 2 ^ n) here
    ∙ ap₂ (λ (x : ℕ) (t : Bool). x + cond t (2 ^ n) 0) (add-zero (set_of n f) ∙ same) (sym (ap (λ (t : Bool). f n || t) (eq-eqb q n s) ∙ or-true (f n))))
    (λ k.
    let top : (f n || eqb q n) ≡ f n = ap (λ (t : Bool). f n || t) (ne_eqb q n (λ z. omega (arith, k, z))) ∙ or-false (f n) in
    let swap : set_of n f + cond (f n) (2 ^ n) 0 + 2 ^ q ≡ set_of n f + 2 ^ q + cond (f n) (2 ^ n) 0 = omega arith in
    swap ∙ ap₂ (λ (x : ℕ) (t : Bool). x + cond t (2 ^ n) 0) (set_put n f q k e) (sym top))
    (eq-or-lt_of_le (le_of_suc-le-suc l))

pub set_had : (n : ℕ) (f : ℕ → Bool) (q : ℕ) → f q ≡ true → set_of n f ≡ set_of n (λ p. f p || eqb q p)
set_had n f q e = set_ext n f (λ p. f p || eqb q p) (λ p _. go p (eqb q p) refl)
  where
    go : (p : ℕ) (t : Bool) → eqb q p ≡ t → f p ≡ (f p || t)
    go p true s = let here = ap f (sym (eqb-true q p s)) ∙ e in here ∙ sym (ap (λ (t : Bool). t || true) here)
    go p false s = sym (or-false (f p))
