-- Numbers and their bytes, once over the width.
use Prim.Native.Nat.{ℕ, zero, suc, ◌+◌, ◌*◌, ◌/◌, ◌%◌, ◌^◌, ◌≤◌, ◌<◌}
use mathlib.Core.Path.{◌≡◌, refl, sym, ap, ap₂, ◌∙◌}
use mathlib.Core.List.{List, [], ◌∷◌, ◌++◌}
use native.Mathlib.Nat.{pow-suc, pow-le-pow_right, one-le-pow, lt_of_lt_of_le, mod-eq_of_lt, mod-one}
use lib.Arith.{mod-mul}
use mathlib.Core.Bool.{Bool, true, false}
use borrow.Author.Tests.{ltb-true, ltb-false, le-leb, lt-leb}
use lib.Dec.{ltb, lit<}
use native.Mathlib.Numerals.{add-one}
use native.Mathlib.Omega.{arith}
use lib.ListN.{length, get_or, take, drop, set, length-append, length-set, get_or-append, get_or-eq_default, length-take, length-drop}
use lib.Seq.{drop-cons, get_or-set_same, drop-set-lt, append_snoc, get_or_at, get_or-take, get_or-drop, take-suc, take-length, take_all}
use Rattle.numbers.specs.Numbers.{spelled, number_in, bytes_of, Bytes, number_at, at_most_eight, pasted, number_put}

-- ---- the loops

-- One byte more, in 64 bits.
pub spelled_on : (s : List ℕ) (i : ℕ) → Bytes s → spelled s i % 2 ^ 64 % 2 ^ 56 * 256 + get_or s i 0 ≡ spelled s (i + 1) % 2 ^ 64
unfolding spelled
spelled_on s i h = rw (add-one i) (omega (arith, h i))

-- One byte more, with what is still to be written on the left.
pub bytes_on : (j x : ℕ) (out : List ℕ) → j < length out → bytes_of j (x / 256) ++ drop j (set out j (x % 256)) ≡ bytes_of (suc j) x ++ drop (suc j) out
unfolding bytes_of
bytes_on j x out h =
    let placed = length-set out j (x % 256) in
    let rest : drop j (set out j (x % 256)) ≡ x % 256 ∷ drop (suc j) out
    = drop-cons (set out j (x % 256)) j 0 (omega arith)
    ∙ ap₂ (λ (b : ℕ) (l : List ℕ). b ∷ l) (get_or-set_same out j (x % 256) 0 h) (drop-set-lt (suc j) out j (x % 256) (omega arith)) in
    ap (λ (l : List ℕ). bytes_of j (x / 256) ++ l) rest ∙ sym (append_snoc (bytes_of j (x / 256)) (x % 256) (drop (suc j) out))

-- ---- lengths and bounds

pub bytes_length : (w x : ℕ) → length (bytes_of w x) ≡ w
unfolding bytes_of
bytes_length zero x = refl
bytes_length (suc w) x = length-append (bytes_of w (x / 256)) (x % 256 ∷ []) ∙ ap (λ (n : ℕ). n + 1) (bytes_length w (x / 256)) ∙ add-one w

-- w bytes spell a number below 256^w.
pub spelled_below : (s : List ℕ) (w : ℕ) → Bytes s → spelled s w < 256 ^ w
unfolding spelled
spelled_below s zero h = omega arith
spelled_below s (suc w) h = omega (arith, pow-suc 256 w, spelled_below s w h, h w)

pub number_below : (s : List ℕ) (w : ℕ) → Bytes s → length s ≤ w → number_in s < 256 ^ w
number_below s w h g = lt_of_lt_of_le (spelled_below s (length s) h) (pow-le-pow_right {n = 256} (lit< tt) g)

-- A number of at most 8 bytes fits 64 bits.
pub number_fits : (s : List ℕ) → Bytes s → length s ≤ 8 → number_in s % 2 ^ 64 ≡ number_in s
number_fits s h g = mod-eq_of_lt (number_below s 8 h g)

-- ---- there and back

-- What is spelled by the first w bytes is not changed by what follows them.
pub spelled_front : (s t : List ℕ) (w : ℕ) → w ≤ length s → spelled (s ++ t) w ≡ spelled s w
unfolding spelled
spelled_front s t zero h = refl
spelled_front s t (suc w) h =
    ap₂ (λ (x b : ℕ). x * 256 + b) (spelled_front s t w (omega arith)) (get_or-append s t 0 w h)

-- The w low bytes of a number spell it, up to what w bytes hold.
spelled_bytes : (w x : ℕ) → spelled (bytes_of w x) w ≡ x % 256 ^ w
unfolding spelled bytes_of
spelled_bytes zero x = sym (mod-one x)
spelled_bytes (suc w) x =
    let high = bytes_of w (x / 256) in
    let whole : length high ≡ w = bytes_length w (x / 256) in
    ap₂ (λ (y b : ℕ). y * 256 + b) (spelled_front high (x % 256 ∷ []) w (omega (arith, whole)) ∙ spelled_bytes w (x / 256)) (get_or_at high (x % 256) [] 0 w whole)
    ∙ sym (mod-mul x (one-le-pow w 256 (lit< tt)) (lit< tt))
    ∙ ap (λ (m : ℕ). x % m) (sym (pow-suc 256 w))

pub number_of_bytes : (w x : ℕ) → number_in (bytes_of w x) ≡ x % 256 ^ w
number_of_bytes w x = ap (spelled (bytes_of w x)) (bytes_length w x) ∙ spelled_bytes w x

-- The bytes of the number that w bytes spell are those bytes.
pub bytes_of_spelled : (s : List ℕ) (w : ℕ) → Bytes s → w ≤ length s → bytes_of w (spelled s w) ≡ take w s
unfolding spelled bytes_of
bytes_of_spelled s zero h g = refl
bytes_of_spelled s (suc w) h g =
    let b = h w in
    let high : (spelled s w * 256 + get_or s w 0) / 256 ≡ spelled s w = omega arith in
    let low : (spelled s w * 256 + get_or s w 0) % 256 ≡ get_or s w 0 = omega arith in
    ap₂ (λ (x y : ℕ). bytes_of w x ++ (y ∷ [])) high low ∙ ap (λ (l : List ℕ). l ++ (get_or s w 0 ∷ [])) (bytes_of_spelled s w h (omega arith)) ∙ sym (take-suc s w 0 g)

pub bytes_of_number : (s : List ℕ) → Bytes s → bytes_of (length s) (number_in s) ≡ s
bytes_of_number s h = bytes_of_spelled s (length s) h (omega arith) ∙ take-length s

-- A part of a byte string is one.
pub part_bytes : (s : List ℕ) (at w : ℕ) → Bytes s → Bytes (take w (drop at s))
part_bytes s at w h i = go (ltb i w) refl
  where
    go : (t : Bool) → ltb i w ≡ t → get_or (take w (drop at s)) i 0 < 256
    go true e = rw (get_or-take w (drop at s) i 0 (ltb-true i w e), get_or-drop at s i 0) (h (at + i))
    go false e =
        let past = ltb-false i w e in
        let size = length-take w (drop at s) in
        rw (get_or-eq_default (take w (drop at s)) 0 {n = i} (omega arith)) (lit< tt)

-- ---- a number at a place

pub at_most_eight_narrow : (w : ℕ) → w ≤ 8 → at_most_eight w ≡ w
at_most_eight_narrow w h = rw (le-leb w 8 h)

-- Past the end there are no bytes.
pub number_past : (s : List ℕ) (at w : ℕ) → length s < at → 0 ≡ number_at s at w
unfolding spelled
number_past s at w h =
    let size = length-take w (drop at s) in
    let rest = length-drop at s in
    let none : length (take w (drop at s)) ≡ 0 = omega arith in
    sym (ap (spelled (take w (drop at s))) none)

-- What is read of a part of at most eight bytes is the number at its place.
pub number_part : (s : List ℕ) (at n w : ℕ) → Bytes s → take n (drop at s) ≡ take w (drop at s) → w ≤ 8 → number_in (take n (drop at s)) % 2 ^ 64 ≡ number_at s at w
number_part s at n w h e narrow =
    let size = length-take w (drop at s) in
    ap (λ (l : List ℕ). number_in l % 2 ^ 64) e ∙ number_fits (take w (drop at s)) (part_bytes s at w h) (omega arith)

-- As many bytes as there are, or more, are all of them.
pub all_left : (s : List ℕ) (at n w : ℕ) → length s ≤ at + n → length s ≤ at + w → take n (drop at s) ≡ take w (drop at s)
all_left s at n w h g =
    let size = length-drop at s in
    take_all n (drop at s) (omega arith) ∙ sym (take_all w (drop at s) (omega arith))

-- Where there is room the number is put in, and else nothing is.
pub put_where_room : (n w at : ℕ) (out : List ℕ) → at + w ≤ length out → pasted at (bytes_of w n) out ≡ number_put n w at out
put_where_room n w at out h = rw (le-leb (at + w) (length out) h)

pub put_no_room : (n w at : ℕ) (out : List ℕ) → length out < at + w → out ≡ number_put n w at out
put_no_room n w at out h = rw (lt-leb (at + w) (length out) h)

-- The number in w bytes at a place is below 256^w.
pub number_at_below : (s : List ℕ) (at w : ℕ) → Bytes s → number_at s at w < 256 ^ w
number_at_below s at w h = let most = length-take w (drop at s) in number_below (take w (drop at s)) w (part_bytes s at w h) (omega arith)
