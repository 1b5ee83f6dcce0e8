-- Pieces put into a buffer one after the other, and the text of numbers.
use Prim.Native.Nat.{ℕ, zero, suc, ◌+◌, ◌-◌, ◌/◌, ◌%◌, ◌^◌, ◌≤◌, ◌<◌, min}
use mathlib.Core.Path.{◌≡◌, refl, sym, ap, ap₂, ◌∙◌}
use mathlib.Core.Logic.{◌⊎◌, ⊎_elim}
use mathlib.Core.Bool.{Bool, true, false, cond, ◌||◌}
use mathlib.Core.List.{List, [], ◌∷◌, ◌++◌, append-nil}
use native.Mathlib.Nat.{zero-sub, suc-add, add-suc, add-zero, pow-suc, one-le-pow}
use native.Mathlib.Omega.{arith}
use borrow.Author.Tests.{leb-true, leb-false, le-leb, lt-leb, ne_eqb}
use lib.Dec.{eqb, leb, lit<}
use lib.ListN.{length, get_or, take, drop, set, length-append, length-set, take-append-drop, drop_of_length-le}
use lib.Seq.{drop-nil, take_all, take-length, take-append_seam, set_split}
use Rattle.std.proofs.lemmas.List.{take_more}
use Rattle.text.specs.declared.Page.{Page}
use Rattle.text.specs.Text.{Place, filled_at, end_at, filled, end_of, within, place_of, wrote, digit, hex_digit, hex_of, decimal, decimal_up_to}

-- ---- a buffer, byte by byte

least : (m n : ℕ) → cond (leb m n) m n ≡ min m n
least m n = go (leb m n) refl
  where
    go : (t : Bool) → leb m n ≡ t → cond t m n ≡ min m n
    go true e = omega (arith, leb-true m n e)
    go false e = omega (arith, leb-false m n e)

pub end_at_min : (at : ℕ) (piece out : List ℕ) → end_at at piece out ≡ min (at + length piece) (length out)
unfolding end_at
end_at_min at piece out = least (at + length piece) (length out)

end_at_suc : (at : ℕ) (piece : List ℕ) (x : ℕ) (out : List ℕ) → end_at (suc at) piece (x ∷ out) ≡ suc (end_at at piece out)
end_at_suc at piece x out = omega (arith, end_at_min (suc at) piece (x ∷ out), end_at_min at piece out)

end_at_cons : (p : ℕ) (ps : List ℕ) (x : ℕ) (out : List ℕ) → end_at 0 (p ∷ ps) (x ∷ out) ≡ suc (end_at 0 ps out)
end_at_cons p ps x out = omega (arith, end_at_min 0 (p ∷ ps) (x ∷ out), end_at_min 0 ps out)

filled_at_suc : (at : ℕ) (piece : List ℕ) (x : ℕ) (out : List ℕ) → filled_at (suc at) piece (x ∷ out) ≡ x ∷ filled_at at piece out
unfolding filled_at
filled_at_suc at piece x out = ap (λ (n : ℕ). x ∷ take (length out) (take at out ++ (piece ++ drop n (x ∷ out)))) (suc-add at (length piece))

filled_at_cons : (p : ℕ) (ps : List ℕ) (x : ℕ) (out : List ℕ) → filled_at 0 (p ∷ ps) (x ∷ out) ≡ p ∷ filled_at 0 ps out
unfolding filled_at
filled_at_cons p ps x out = ap (λ (n : ℕ). p ∷ take (length out) (ps ++ drop n (x ∷ out))) (add-suc 0 (length ps))

-- ---- a piece

filled_at_none : (at : ℕ) (out : List ℕ) → filled_at at [] out ≡ out
unfolding filled_at
filled_at_none at out =
    ap (λ (n : ℕ). take (length out) (take at out ++ drop n out)) (add-zero at)
    ∙ ap (take (length out)) (take-append-drop at out)
    ∙ take-length out

end_at_none : (at : ℕ) (out : List ℕ) → end_at at [] out ≡ cond (leb at (length out)) at (length out)
end_at_none at out = omega (arith, end_at_min at [] out, least at (length out))

pub filled_at_length : (at : ℕ) (piece out : List ℕ) → length (filled_at at piece out) ≡ length out
unfolding filled_at
filled_at_length at piece [] = refl
filled_at_length (suc at) piece (x ∷ out) = ap length (filled_at_suc at piece x out) ∙ ap suc (filled_at_length at piece out)
filled_at_length zero [] (x ∷ out) = ap length (filled_at_none 0 (x ∷ out))
filled_at_length zero (p ∷ ps) (x ∷ out) = ap length (filled_at_cons p ps x out) ∙ ap suc (filled_at_length zero ps out)

end_at_le : (at : ℕ) (piece out : List ℕ) → end_at at piece out ≤ length out
end_at_le at piece out = omega (arith, end_at_min at piece out)

filled_at_byte : (at b : ℕ) (out : List ℕ) → at < length out → filled_at at (b ∷ []) out ≡ set out at b
unfolding filled_at
filled_at_byte at b out h =
    ap (λ (n : ℕ). take (length out) (take at out ++ (b ∷ drop n out))) (add-suc at 0 ∙ ap suc (add-zero at))
    ∙ ap₂ (λ (n : ℕ) (l : List ℕ). take n l) (sym (length-set out at b)) (sym (set_split out at b h))
    ∙ take-length (set out at b)

-- Nothing is put in beyond the end.
filled_at_past : (at : ℕ) (piece out : List ℕ) → length out ≤ at → filled_at at piece out ≡ out
unfolding filled_at
filled_at_past at piece out h =
    ap (λ (l : List ℕ). take (length out) (l ++ (piece ++ drop (at + length piece) out))) (take_all at out h)
    ∙ take-append_seam out (piece ++ drop (at + length piece) out)

-- ---- two pieces are one

filled_at_next : (at : ℕ) (xs ys out : List ℕ) → filled_at (end_at at xs out) ys (filled_at at xs out) ≡ filled_at at (xs ++ ys) out
unfolding filled_at
filled_at_next at xs ys [] = refl
filled_at_next (suc at) xs ys (x ∷ out) =
    ap₂ (λ (n : ℕ) (l : List ℕ). filled_at n ys l) (end_at_suc at xs x out) (filled_at_suc at xs x out)
    ∙ filled_at_suc (end_at at xs out) ys x (filled_at at xs out)
    ∙ ap (λ (l : List ℕ). x ∷ l) (filled_at_next at xs ys out)
    ∙ sym (filled_at_suc at (xs ++ ys) x out)
filled_at_next zero [] ys (x ∷ out) =
    let first : end_at 0 [] (x ∷ out) ≡ 0 = omega (arith, end_at_min 0 [] (x ∷ out)) in
    ap₂ (λ (n : ℕ) (l : List ℕ). filled_at n ys l) first (filled_at_none 0 (x ∷ out))
filled_at_next zero (p ∷ xs) ys (x ∷ out) =
    ap₂ (λ (n : ℕ) (l : List ℕ). filled_at n ys l) (end_at_cons p xs x out) (filled_at_cons p xs x out)
    ∙ filled_at_suc (end_at 0 xs out) ys p (filled_at 0 xs out)
    ∙ ap (λ (l : List ℕ). p ∷ l) (filled_at_next zero xs ys out)
    ∙ sym (filled_at_cons p (xs ++ ys) x out)

end_at_next : (at : ℕ) (xs ys out : List ℕ) → end_at (end_at at xs out) ys (filled_at at xs out) ≡ end_at at (xs ++ ys) out
end_at_next at xs ys out =
    let size = filled_at_length at xs out in
    let both = length-append xs ys in
    omega (arith, end_at_min (end_at at xs out) ys (filled_at at xs out), end_at_min at xs out, end_at_min at (xs ++ ys) out)

-- ---- the same, where the first bytes are left out

-- What is left out of two pieces in a row.
drop_both : (n : ℕ) (xs ys : List ℕ) → drop n xs ++ drop (n - length xs) ys ≡ drop n (xs ++ ys)
drop_both zero xs ys = ap (λ (k : ℕ). xs ++ drop k ys) (zero-sub (length xs))
drop_both (suc n) [] ys = let all : suc n - 0 ≡ suc n = omega arith in ap (λ (k : ℕ). drop k ys) all
drop_both (suc n) (x ∷ xs) ys =
    let one_less : suc n - suc (length xs) ≡ n - length xs = omega arith in
    ap (λ (k : ℕ). drop n xs ++ drop k ys) one_less ∙ drop_both n xs ys

pub filled_next : (p : Place) (xs ys out : List ℕ) → filled (end_of p xs out) ys (filled p xs out) ≡ filled p (xs ++ ys) out
unfolding filled end_of
filled_next p xs ys out =
    filled_at_next p.at (drop p.skip xs) (drop (p.skip - length xs) ys) out
    ∙ ap (λ (l : List ℕ). filled_at p.at l out) (drop_both p.skip xs ys)

pub end_next : (p : Place) (xs ys out : List ℕ) → end_of (end_of p xs out) ys (filled p xs out) ≡ end_of p (xs ++ ys) out
unfolding filled end_of
end_next p xs ys out =
    let left_out : p.skip - length xs - length ys ≡ p.skip - length (xs ++ ys) = omega (arith, length-append xs ys) in
    let place = end_at_next p.at (drop p.skip xs) (drop (p.skip - length xs) ys) out ∙ ap (λ (l : List ℕ). end_at p.at l out) (drop_both p.skip xs ys) in
    λ i. record { skip = left_out i; at = place i }

pub filled_none : (p : Place) (out : List ℕ) → filled p [] out ≡ out
unfolding filled
filled_none p out = ap (λ (l : List ℕ). filled_at p.at l out) (drop-nil p.skip) ∙ filled_at_none p.at out

pub end_none : (p : Place) (out : List ℕ) → end_of p [] out ≡ within p (length out)
unfolding end_of
end_none p out =
    let place = ap (λ (l : List ℕ). end_at p.at l out) (drop-nil p.skip) ∙ end_at_none p.at out in
    let all : p.skip - 0 ≡ p.skip = omega arith in
    λ i. record { skip = all i; at = place i }

pub filled_length : (p : Place) (piece out : List ℕ) → length (filled p piece out) ≡ length out
unfolding filled
filled_length p piece out = filled_at_length p.at (drop p.skip piece) out

pub end_le : (p : Place) (piece out : List ℕ) → (end_of p piece out).at ≤ length out
unfolding end_of
end_le p piece out = end_at_le p.at (drop p.skip piece) out

-- ---- on a page

module _ (p : Page) (piece : List ℕ) where
  -- A page is known by its place and its text.
  wrote_is : {skip at : ℕ} {text : List ℕ} → ◌≡◌ {A = Place} (record { skip = skip; at = at }) (end_of (place_of p) piece p.text.now)
      → text ≡ filled (place_of p) piece p.text.now → ◌≡◌ {A = Page} (record { skip = skip; at = at; text = record p.text { now = text } }) (wrote p piece)
  unfolding wrote
  wrote_is e f = λ i. record { skip = (e i).skip; at = (e i).at; text = record p.text { now = f i } }

  wrote_inside : (wrote p piece).at ≤ length (wrote p piece).text.now
  unfolding wrote
  wrote_inside = omega (arith, end_le (place_of p) piece p.text.now, filled_length (place_of p) piece p.text.now)

-- Two pieces in a row are one.
pub wrote_next : (p : Page) (xs ys : List ℕ) → wrote (wrote p xs) ys ≡ wrote p (xs ++ ys)
unfolding wrote
wrote_next p xs ys =
    let out = p.text.now in
    let end = end_next (place_of p) xs ys out in
    let text = filled_next (place_of p) xs ys out in
    λ i. record { skip = (end i).skip; at = (end i).at; text = record p.text { now = text i } }

-- Without a piece a place past the end is the end.
pub wrote_none : (p : Page) {at : ℕ} → at ≡ min p.at (length p.text.now) → ◌≡◌ {A = Page} (record { skip = p.skip; at = at; text = p.text }) (wrote p [])
wrote_none p {at} e =
    let place : at ≡ cond (leb p.at (length p.text.now)) p.at (length p.text.now) = omega (arith, e, least p.at (length p.text.now)) in
    wrote_is p [] ((λ i. record { skip = p.skip; at = place i }) ∙ sym (end_none (place_of p) p.text.now)) (sym (filled_none (place_of p) p.text.now))

-- ---- what is still to be put on a page

-- To put the rest on the page that it is by now gives what the whole gives on the page that it was.
pub record Remains (p : Page) (piece : List ℕ) (q : Page) (rest : List ℕ) : Type 0 where
  pub inside : q ≡ wrote q []
  pub after : wrote q rest ≡ wrote p piece

pub remains_all : (p : Page) (piece : List ℕ) → p.at ≤ length p.text.now → Remains p piece p piece
remains_all p piece h = record { inside = wrote_none p (omega (arith, h)); after = refl }

module _ {p q : Page} {piece : List ℕ} where
  pub remains_next : (xs : List ℕ) {ys : List ℕ} {r : Page} → Remains p piece q (xs ++ ys) → r ≡ wrote q xs → Remains p piece r ys
  remains_next xs {ys} d e = record {
    inside = e ∙ ap (wrote q) (sym (append-nil xs)) ∙ sym (wrote_next q xs []) ∙ ap (λ (x : Page). wrote x []) (sym e);
    after = ap (λ (x : Page). wrote x ys) e ∙ wrote_next q xs ys ∙ d.after;
  }

  -- A page whose place is within the buffer is as good as the page itself.
  pub remains_start : q ≡ wrote p [] → Remains p piece q piece
  remains_start e = record {
    inside = e ∙ sym (wrote_next p [] []) ∙ ap (λ (x : Page). wrote x []) (sym e);
    after = ap (λ (x : Page). wrote x piece) e ∙ wrote_next p [] piece;
  }

  pub remains_none : Remains p piece q [] → q ≡ wrote p piece
  remains_none d = d.inside ∙ d.after

-- ---- one byte, from a place within the buffer on

module _ (p q : Page) (b : ℕ) (e : q ≡ wrote p []) where
  inside : q.at ≤ length q.text.now
  inside = rw e (wrote_inside p [])

  from_q : {r : Page} → r ≡ wrote q (b ∷ []) → r ≡ wrote p (b ∷ [])
  from_q f = f ∙ ap (λ (x : Page). wrote x (b ∷ [])) e ∙ wrote_next p [] (b ∷ [])

  -- It is left out.
  pub byte_skipped : 0 < q.skip → record q { skip = q.skip - 1 } ≡ wrote p (b ∷ [])
  unfolding filled end_of
  byte_skipped h = from_q (wrote_is q (b ∷ []) (λ i. record { skip = q.skip - 1; at = place i }) text)
    where
      none : drop q.skip (b ∷ []) ≡ []
      none = drop_of_length-le (b ∷ []) {i = q.skip} h

      place : q.at ≡ end_at q.at (drop q.skip (b ∷ [])) q.text.now
      place = omega (arith, inside, end_at_min q.at [] q.text.now, ap (λ (l : List ℕ). end_at q.at l q.text.now) none)

      text : q.text.now ≡ filled_at q.at (drop q.skip (b ∷ [])) q.text.now
      text = sym (filled_at_none q.at q.text.now) ∙ ap (λ (l : List ℕ). filled_at q.at l q.text.now) (sym none)

  -- It is put in.
  pub byte_put : q.skip ≡ 0 → q.at < length q.text.now
      → ◌≡◌ {A = Page} (record { skip = q.skip; at = q.at + 1; text = record q.text { now = set q.text.now q.at b } }) (wrote p (b ∷ []))
  unfolding filled end_of
  byte_put z h = from_q (wrote_is q (b ∷ []) (λ i. record { skip = no_more i; at = place i }) text)
    where
      no_more : q.skip ≡ q.skip - 1
      no_more = omega (arith, z)

      whole : drop q.skip (b ∷ []) ≡ b ∷ []
      whole = ap (λ (n : ℕ). drop n (b ∷ [])) z

      place : q.at + 1 ≡ end_at q.at (drop q.skip (b ∷ [])) q.text.now
      place = omega (arith, h, end_at_min q.at (b ∷ []) q.text.now, ap (λ (l : List ℕ). end_at q.at l q.text.now) whole)

      text : set q.text.now q.at b ≡ filled_at q.at (drop q.skip (b ∷ [])) q.text.now
      text = sym (filled_at_byte q.at b q.text.now h) ∙ ap (λ (l : List ℕ). filled_at q.at l q.text.now) (sym whole)

  -- It does not fit.
  pub byte_past : q.skip ≡ 0 → length q.text.now ≤ q.at → q ≡ wrote p (b ∷ [])
  unfolding filled end_of
  byte_past z h = from_q (wrote_is q (b ∷ []) (λ i. record { skip = no_more i; at = place i }) text)
    where
      no_more : q.skip ≡ q.skip - 1
      no_more = omega (arith, z)

      place : q.at ≡ end_at q.at (drop q.skip (b ∷ [])) q.text.now
      place = omega (arith, inside, h, end_at_min q.at (drop q.skip (b ∷ [])) q.text.now)

      text : q.text.now ≡ filled_at q.at (drop q.skip (b ∷ [])) q.text.now
      text = sym (filled_at_past q.at (drop q.skip (b ∷ [])) q.text.now h)

-- ---- loops over a piece, over bytes and over the places of a number

pub piece_next : (p : Page) (l : List ℕ) (i : ℕ) {q r : Page} → i < length l → q ≡ wrote p (take i l) → r ≡ wrote q (get_or l i 0 ∷ []) → r ≡ wrote p (take (i + 1) l)
piece_next p l i h e f =
    f ∙ ap (λ (x : Page). wrote x (get_or l i 0 ∷ [])) e ∙ wrote_next p (take i l) (get_or l i 0 ∷ []) ∙ ap (wrote p) (sym (take_more l i 0 h))

hex_of_append : (xs ys : List ℕ) → hex_of (xs ++ ys) ≡ hex_of xs ++ hex_of ys
hex_of_append [] ys = refl
hex_of_append (x ∷ xs) ys = ap (λ (l : List ℕ). hex_digit (x / 16) ∷ (hex_digit (x % 16) ∷ l)) (hex_of_append xs ys)

-- The two digits of one more byte are put in.
pub hex_next : (p : Page) (bytes : List ℕ) (i : ℕ) {high low : ℕ} {q middle r : Page} → i < length bytes → q ≡ wrote p (hex_of (take i bytes))
    → high ≡ hex_digit (get_or bytes i 0 / 16) → middle ≡ wrote q (high ∷ [])
    → low ≡ hex_digit (get_or bytes i 0 % 16) → r ≡ wrote middle (low ∷ []) → r ≡ wrote p (hex_of (take (i + 1) bytes))
hex_next p bytes i {high} {low} {q} h e eh f el g =
    let b = get_or bytes i 0 in
    let digits : hex_of (take (i + 1) bytes) ≡ hex_of (take i bytes) ++ (high ∷ (low ∷ [])) =
    rw (eh, el) (ap hex_of (take_more bytes i 0 h) ∙ hex_of_append (take i bytes) (b ∷ [])) in
    g ∙ ap (λ (x : Page). wrote x (low ∷ [])) f ∙ wrote_next q (high ∷ []) (low ∷ []) ∙ ap (λ (x : Page). wrote x (high ∷ (low ∷ []))) e
    ∙ wrote_next p (hex_of (take i bytes)) (high ∷ (low ∷ [])) ∙ ap (wrote p) (sym digits)

module _ {p q : Page} (n w : ℕ) {place : ℕ} (some : 0 < w) (power : place ≡ 10 ^ (w - 1)) (d : Remains p (decimal n) q (decimal_up_to w n)) where
  digits : decimal_up_to w n ≡ cond (eqb (w - 1) 0 || leb place n) (digit (n / place % 10) ∷ []) [] ++ decimal_up_to (w - 1) n
  unfolding decimal_up_to
  digits = rw power (go w some)
    where
      go : (v : ℕ) → 0 < v → decimal_up_to v n ≡ cond (eqb (v - 1) 0 || leb (10 ^ (v - 1)) n) (digit (n / 10 ^ (v - 1) % 10) ∷ []) [] ++ decimal_up_to (v - 1) n
      go zero h = absurd (omega (arith, h))
      go (suc v) h = let one_less : suc v - 1 ≡ v = omega arith in rw one_less

  pub digits_skip : (0 < w - 1) × (n < place) → Remains p (decimal n) q (decimal_up_to (w - 1) n)
  digits_skip h = rw (digits, ne_eqb (w - 1) 0 (λ e. omega (arith, e, h.0)), lt-leb place n h.1) at d

  pub digits_next : {r : Page} → (w - 1 ≡ 0) ⊎ ((w - 1 ≡ 0 → ⊥) × (place ≤ n)) → r ≡ wrote q (digit (n / place % 10) ∷ []) → Remains p (decimal n) r (decimal_up_to (w - 1) n)
  digits_next h f =
      let test : (eqb (w - 1) 0 || leb place n) ≡ true = ⊎_elim (λ e. rw e) (λ l. rw (le-leb place n l.1) (or_true (eqb (w - 1) 0))) h in
      remains_next (digit (n / place % 10) ∷ []) (rw (digits, test) at d) f
    where
      or_true : (t : Bool) → (t || true) ≡ true
      or_true true = refl
      or_true false = refl

-- The place below a digit's is a tenth of it.
pub place_below : (w : ℕ) {place : ℕ} → place ≡ 10 ^ w → 0 < w → place / 10 ≡ 10 ^ (w - 1)
place_below zero e h = absurd (omega (arith, h))
place_below (suc w) e h = let one_less : suc w - 1 ≡ w = omega arith in rw (one_less, e) (tenth w)
  where
    tenth : (w : ℕ) → 10 ^ suc w / 10 ≡ 10 ^ w
    tenth w = omega (arith, pow-suc 10 w)

pub digits_last : {p q r : Page} (n w : ℕ) → w ≡ 1 → Remains p (decimal n) q (decimal_up_to w n) → r ≡ wrote q (digit (n % 10) ∷ []) → r ≡ wrote p (decimal n)
unfolding decimal_up_to
digits_last n w one d f =
    let same : n / 1 % 10 ≡ n % 10 = omega arith in
    remains_none (remains_next (digit (n / 1 % 10) ∷ []) (rw one at d) (rw same f))

-- A number below ten is its one digit.
one_digit_up_to : (w n : ℕ) → n < 10 → decimal_up_to (suc w) n ≡ digit n ∷ []
unfolding decimal_up_to
one_digit_up_to zero n h = ap (λ (d : ℕ). digit d ∷ []) (omega (arith, h))
one_digit_up_to (suc w) n h =
    let none = lt-leb (10 ^ suc w) n (omega (arith, h, pow-suc 10 w, one-le-pow w 10 (lit< tt))) in
    rw (ne_eqb (suc w) 0 (λ e. omega (arith, e)), none) (one_digit_up_to w n h)

pub digit_only : (p : Page) {q r : Page} (n : ℕ) → n < 10 → q ≡ wrote p [] → r ≡ wrote q (digit n ∷ []) → r ≡ wrote p (decimal n)
digit_only p n h e f = rw (one_digit_up_to 19 n h) (f ∙ ap (λ (x : Page). wrote x (digit n ∷ [])) e ∙ wrote_next p [] (digit n ∷ []))
