-- How long the text of a number and of bytes is, and what a buffer holds of a piece that is put in from its first byte on.
use Prim.Native.Nat.{ℕ, zero, suc, ◌*◌, ◌/◌, ◌%◌, ◌^◌, ◌≤◌, ◌<◌, zero-le}
use mathlib.Core.Path.{◌≡◌, refl, sym, ap, ap₂, ◌∙◌}
use mathlib.Core.Bool.{Bool, true, false, cond, ◌||◌}
use mathlib.Core.List.{List, [], ◌∷◌, ◌++◌, append-nil}
use native.Mathlib.Nat.{pow-le-pow_right, zero-add}
use native.Mathlib.Omega.{arith}
use borrow.Author.Tests.{leb-true, leb-false, lt-leb, ne_eqb}
use lib.Dec.{eqb, leb, lit<}
use lib.ListN.{length, take, drop, length-append, length-take, length-drop, drop_of_length-le}
use lib.Seq.{length-take-le, take_all, take-append-le}
use Rattle.text.specs.Text.{filled_at, end_at, laid_over, digit, decimal_up_to, decimal, hex_of}
use Rattle.text.proofs.Laws.{end_at_min}

digit_or_none : (t : Bool) (d : ℕ) (rest : List ℕ) → length (cond t (d ∷ []) [] ++ rest) ≤ suc (length rest)
digit_or_none true d rest = omega arith
digit_or_none false d rest = omega arith

at_most_places : (w n : ℕ) → length (decimal_up_to w n) ≤ w
unfolding decimal_up_to
at_most_places zero n = zero-le
at_most_places (suc w) n = omega (arith, digit_or_none (eqb w 0 || leb (10 ^ w) n) (digit (n / 10 ^ w % 10)) (decimal_up_to w n), at_most_places w n)

-- A number below 10 ^ k has at most k digits.
module _ (k n : ℕ) (some : 0 < k) (small : n < 10 ^ k) where
  no_digit : (w : ℕ) → k ≤ w → (eqb w 0 || leb (10 ^ w) n) ≡ false
  no_digit w h =
      ap₂ (λ (s t : Bool). s || t) (ne_eqb w 0 (λ e. omega (arith, e))) (lt-leb (10 ^ w) n (omega (arith, pow-le-pow_right {n = 10} (lit< tt) h)))

  short : (w : ℕ) → length (decimal_up_to w n) ≤ k
  unfolding decimal_up_to
  short zero = zero-le
  short (suc w) = go (leb k w) refl (short w)
    where
      go : (t : Bool) → leb k w ≡ t → length (decimal_up_to w n) ≤ k → length (decimal_up_to (suc w) n) ≤ k
      go true e h = rw (no_digit w (leb-true k w e)) h
      go false e h = omega (arith, at_most_places (suc w) n, leb-false k w e)

  pub decimal_length : length (decimal n) ≤ k
  decimal_length = short 20

pub hex_length : (bytes : List ℕ) → length (hex_of bytes) ≡ 2 * length bytes
hex_length [] = refl
hex_length (b ∷ bs) = omega (arith, hex_length bs)

-- ---- a piece put in from the first byte on

module _ (n : ℕ) (piece out : List ℕ) (room : length out ≡ n) where
  front : take n (piece ++ drop (length piece) out) ≡ laid_over (take n piece) out
  unfolding laid_over
  front = go (leb (length piece) n) refl
    where
      go : (t : Bool) → leb (length piece) n ≡ t → take n (piece ++ drop (length piece) out) ≡ laid_over (take n piece) out
      go true e =
          let fits = leb-true (length piece) n e in
          let size : length (piece ++ drop (length piece) out) ≤ n = omega (arith, length-append piece (drop (length piece) out), length-drop (length piece) out) in
          take_all n (piece ++ drop (length piece) out) size ∙ ap (λ (l : List ℕ). laid_over l out) (sym (take_all n piece fits))
      go false e =
          let long : n ≤ length piece = omega (arith, leb-false (length piece) n e) in
          let none : drop (length (take n piece)) out ≡ [] = drop_of_length-le out {i = length (take n piece)} (omega (arith, length-take-le n piece long)) in
          take-append-le n piece (drop (length piece) out) long
          ∙ sym (append-nil (take n piece))
          ∙ ap (λ (l : List ℕ). take n piece ++ l) (sym none)

  -- The buffer begins with as much of the piece as fits.
  pub filled_front : filled_at 0 piece out ≡ laid_over (take n piece) out
  unfolding filled_at
  filled_front = ap₂ (λ (k m : ℕ). take k (piece ++ drop m out)) room (zero-add (length piece)) ∙ front

  pub end_front : end_at 0 piece out ≡ length (take n piece)
  end_front = omega (arith, end_at_min 0 piece out, length-take n piece)

-- A piece that is no longer than the buffer is there whole.
pub filled_whole : (n : ℕ) (piece out : List ℕ) → length out ≡ n → length piece ≤ n → (end_at 0 piece out ≡ length piece) × (filled_at 0 piece out ≡ laid_over piece out)
filled_whole n piece out room fits =
    let all = take_all n piece fits in
    (end_front n piece out room ∙ ap length all, filled_front n piece out room ∙ ap (λ (l : List ℕ). laid_over l out) all)

-- A buffer that begins with a piece is no shorter.
pub laid_within : (end : ℕ) (piece out out' : List ℕ) → end ≡ length piece → out' ≡ laid_over piece out → end ≤ length out'
unfolding laid_over
laid_within end piece out out' e f = omega (arith, e, ap length f, length-append piece (drop (length piece) out))
