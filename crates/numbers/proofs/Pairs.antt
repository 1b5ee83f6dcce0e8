-- Numbers of two, six and eight bytes, put together of pairs of bytes.
use Prim.Native.Nat.{ℕ, suc, ◌-◌, ◌+◌, ◌*◌, ◌/◌, ◌%◌, ◌≤◌, ◌<◌}
use mathlib.Core.Path.{◌≡◌, sym, ap, ap₂, ◌∙◌}
use mathlib.Core.List.{List, [], ◌∷◌, ◌++◌, append_assoc}
use native.Mathlib.Nat.{add-zero, add_assoc, div-div-eq-div-mul}
use native.Mathlib.Numerals.{add-one}
use native.Mathlib.Omega.{arith}
use lib.ListN.{length, get_or, take, drop, set, length-append, length-drop, length-set, take-append-drop}
use lib.Seq.{length-take-le, take-append-le, take-take, drop_at, get_or-drop, set_split}
use Rattle.numbers.specs.Numbers.{spelled, number_at, bytes_of, pasted}
use Rattle.numbers.proofs.Laws.{spelled_front, bytes_length}

-- ---- reading

-- The number in the bytes from a place on is what the rest of the bytes spells.
number_spelled : (s : List ℕ) (at w : ℕ) → at + w ≤ length s → number_at s at w ≡ spelled (drop at s) w
number_spelled s at w h =
    let rest = drop at s in
    let size = length-drop at s in
    let whole : length (take w rest) ≡ w = length-take-le w rest (omega arith) in
    ap (spelled (take w rest)) whole
    ∙ sym (spelled_front (take w rest) (drop w rest) w (omega arith))
    ∙ ap (λ (l : List ℕ). spelled l w) (take-append-drop w rest)

byte_after : (s : List ℕ) (at k i : ℕ) → get_or (drop (at + k) s) i 0 ≡ get_or s (at + (k + i)) 0
byte_after s at k i = get_or-drop (at + k) s i 0 ∙ ap (λ (j : ℕ). get_or s j 0) (add_assoc at k i)

pub number_two : (s : List ℕ) (at : ℕ) → at + 2 ≤ length s → get_or s (at + 1) 0 + get_or s at 0 * 256 ≡ number_at s at 2
unfolding spelled
number_two s at h =
    let first = get_or-drop at s 0 0 ∙ ap (λ (j : ℕ). get_or s j 0) (add-zero at) in
    let second = get_or-drop at s 1 0 in
    omega (arith, number_spelled s at 2 h, first, second)

pub number_six : (s : List ℕ) (at : ℕ) → at + 6 ≤ length s
    → number_at s (at + 4) 2 + number_at s (at + 2) 2 * 0x10000 + number_at s at 2 * 0x100000000 ≡ number_at s at 6
unfolding spelled
number_six s at h =
    let low = number_spelled s (at + 4) 2 (omega arith) in
    let middle = number_spelled s (at + 2) 2 (omega arith) in
    let high = number_spelled s at 2 (omega arith) in
    let b₂ = byte_after s at 2 0 ∙ sym (get_or-drop at s 2 0) in
    let b₃ = byte_after s at 2 1 ∙ sym (get_or-drop at s 3 0) in
    let b₄ = byte_after s at 4 0 ∙ sym (get_or-drop at s 4 0) in
    let b₅ = byte_after s at 4 1 ∙ sym (get_or-drop at s 5 0) in
    omega (arith, number_spelled s at 6 h, low, middle, high, b₂, b₃, b₄, b₅)

pub number_eight : (s : List ℕ) (at : ℕ) → at + 8 ≤ length s → number_at s (at + 2) 6 + number_at s at 2 * 0x1000000000000 ≡ number_at s at 8
unfolding spelled
number_eight s at h =
    let low = number_spelled s (at + 2) 6 (omega arith) in
    let high = number_spelled s at 2 (omega arith) in
    let b₂ = byte_after s at 2 0 ∙ sym (get_or-drop at s 2 0) in
    let b₃ = byte_after s at 2 1 ∙ sym (get_or-drop at s 3 0) in
    let b₄ = byte_after s at 2 2 ∙ sym (get_or-drop at s 4 0) in
    let b₅ = byte_after s at 2 3 ∙ sym (get_or-drop at s 5 0) in
    let b₆ = byte_after s at 2 4 ∙ sym (get_or-drop at s 6 0) in
    let b₇ = byte_after s at 2 5 ∙ sym (get_or-drop at s 7 0) in
    omega (arith, number_spelled s at 8 h, low, high, b₂, b₃, b₄, b₅, b₆, b₇)

-- ---- writing

-- A piece put in just before another is one piece with it.
pub pasted_before : (at j : ℕ) (xs ys out : List ℕ) → j ≡ at + length xs → j ≤ length out → pasted at xs (pasted j ys out) ≡ pasted at (xs ++ ys) out
pasted_before at j xs ys out e h =
    let rest = ys ++ drop (j + length ys) out in
    let size : length (take j out) ≡ j = length-take-le j out h in
    let front : take at (take j out ++ rest) ≡ take at out = take-append-le at (take j out) rest (omega arith) ∙ take-take at j out (omega arith) in
    let back : drop (at + length xs) (take j out ++ rest) ≡ rest = drop_at (take j out) rest (at + length xs) (omega arith) in
    let after : j + length ys ≡ at + length (xs ++ ys) = omega (arith, length-append xs ys) in
    ap₂ (λ (f b : List ℕ). f ++ (xs ++ b)) front back
    ∙ ap (λ (l : List ℕ). take at out ++ l) (sym (append_assoc xs ys (drop (j + length ys) out)) ∙ ap (λ (n : ℕ). (xs ++ ys) ++ drop n out) after)

set_pasted : (at b : ℕ) (out : List ℕ) → at < length out → set out at b ≡ pasted at (b ∷ []) out
set_pasted at b out h = set_split out at b h ∙ ap (λ (n : ℕ). take at out ++ (b ∷ drop n out)) (sym (add-one at))

pub put_two : (n at : ℕ) (out : List ℕ) → at + 2 ≤ length out
    → set (set out (at + 1) (n % 256)) at (n / 256 % 256) ≡ pasted at (bytes_of 2 n) out
unfolding bytes_of
put_two n at out h =
    let size = length-set out (at + 1) (n % 256) in
    set_pasted at (n / 256 % 256) (set out (at + 1) (n % 256)) (omega arith)
    ∙ ap (pasted at (n / 256 % 256 ∷ [])) (set_pasted (at + 1) (n % 256) out (omega arith))
    ∙ pasted_before at (at + 1) (n / 256 % 256 ∷ []) (n % 256 ∷ []) out (ap (λ (k : ℕ). at + k) (sym (add-one 0))) (omega arith)

two_off : (n : ℕ) → n / 0x10000 ≡ n / 256 / 256
two_off n = sym (div-div-eq-div-mul n 256 256)

bytes_more : (w x : ℕ) → bytes_of w (x / 0x10000) ++ bytes_of 2 x ≡ bytes_of (w + 2) x
unfolding bytes_of
bytes_more w x =
    let after : w + 2 ≡ suc (suc w) = omega arith in
    ap (λ (k : ℕ). bytes_of w k ++ bytes_of 2 x) (two_off x)
    ∙ sym (append_assoc (bytes_of w (x / 256 / 256)) (x / 256 % 256 ∷ []) (x % 256 ∷ []))
    ∙ ap (λ (k : ℕ). bytes_of k x) (sym after)

-- One more pair is put in, before those that are.
pub pairs_before : (at i rest : ℕ) (out : List ℕ) {out' : List ℕ} → at + 2 * i ≤ length out → 0 < i → out' ≡ pasted (at + 2 * (i - 1)) (bytes_of 2 rest) out
    → pasted at (bytes_of (2 * (i - 1)) (rest / 0x10000)) out' ≡ pasted at (bytes_of (2 * i) rest) out
pairs_before at i rest out h some e =
    let w = 2 * (i - 1) in
    let after : w + 2 ≡ 2 * i = omega arith in
    ap (pasted at (bytes_of w (rest / 0x10000))) e
    ∙ pasted_before at (at + w) (bytes_of w (rest / 0x10000)) (bytes_of 2 rest) out (omega (arith, bytes_length w (rest / 0x10000))) (omega arith)
    ∙ ap (λ (l : List ℕ). pasted at l out) (bytes_more w rest ∙ ap (λ (k : ℕ). bytes_of k rest) after)

pub pairs_all : (at i rest : ℕ) (out : List ℕ) → i ≤ 0 → out ≡ pasted at (bytes_of (2 * i) rest) out
unfolding bytes_of
pairs_all at i rest out h =
    let none : 2 * i ≡ 0 = omega arith in
    sym (ap (λ (k : ℕ). pasted at (bytes_of k rest) out) none ∙ ap (λ (k : ℕ). take at out ++ drop k out) (add-zero at) ∙ take-append-drop at out)
