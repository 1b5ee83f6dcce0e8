-- Frames written into an output, one after another.
use Prim.Native.Nat.{ℕ, zero, suc, ◌+◌, ◌-◌, ◌*◌, ◌/◌, ◌%◌, ◌^◌, ◌≤◌, ◌<◌}
use mathlib.Core.Path.{◌≡◌, refl, sym, ap, ap₂, ◌∙◌}
use mathlib.Core.List.{List, [], ◌∷◌, ◌++◌, append_assoc, append-nil}
use native.Mathlib.Nat.{add-zero, add-suc, mul-one, mul_assoc, pow-zero, pow-suc}
use native.Mathlib.Numerals.{add-one}
use native.Mathlib.Omega.{arith}
use lib.ListN.{length, take, drop, drop_of_length-le, replicate, length-append, replicate-append-replicate}
use lib.Pow.{pow-add, shl_exact}
use lib.Seq.{length-take-le, take_at, drop_at, drop-drop}
use Rattle.numbers.specs.Numbers.{number_in, bytes_of, Bytes, pasted, number_put}
use Rattle.numbers.proofs.Laws.{number_below, bytes_length, bytes_of_number, put_where_room}
use Rattle.numbers.proofs.Pasting.{pasted_next, pasted_length, pasted_first}
use Rattle.can_rules.specs.declared.Part.{Part}
use Rattle.can_rules.specs.Frames.{header_of, frame, frame_bytes}

-- ---- one frame

-- The next piece, its place given as a number.
pub next : (at k place : ℕ) (xs ys out : List ℕ) → length xs ≡ k → place ≡ at + k → at + k ≤ length out → pasted place ys (pasted at xs out) ≡ pasted at (xs ++ ys) out
next at k place xs ys out e p h =
    ap (λ (n : ℕ). pasted n ys (pasted at xs out)) (p ∙ ap (λ (n : ℕ). at + n) (sym e)) ∙ pasted_next at xs ys out (omega arith)

-- What is put over a shorter piece covers it.
covered : (at : ℕ) (zs ys out : List ℕ) → at ≤ length out → length zs ≤ length ys → pasted at ys (pasted at zs out) ≡ pasted at ys out
covered at zs ys out h g =
    let more = length ys - length zs in
    let rest = drop (at + length zs) out in
    let size : length (take at out) ≡ at = length-take-le at out h in
    let front : take at (pasted at zs out) ≡ take at out = take_at (take at out) (zs ++ rest) at size in
    let both : length ys ≡ length zs + more = omega arith in
    let far : at + length zs + more ≡ at + length ys = omega arith in
    let back : drop (at + length ys) (pasted at zs out) ≡ drop (at + length ys) out
    = sym (drop-drop (length ys) at (pasted at zs out))
    ∙ ap (drop (length ys)) (drop_at (take at out) (zs ++ rest) at size)
    ∙ ap (λ (n : ℕ). drop n (zs ++ rest)) both
    ∙ sym (drop-drop more (length zs) (zs ++ rest))
    ∙ ap (drop more) (drop_at zs rest (length zs) refl)
    ∙ drop-drop more (at + length zs) out
    ∙ ap (λ (n : ℕ). drop n out) far in
    ap₂ (λ (f b : List ℕ). f ++ (ys ++ b)) front back

-- Header and length as one number of eight bytes, three of them zero.
front_bytes : (header size : ℕ) → size < 256
    → bytes_of 8 (header * 0x100000000 + size * 0x1000000) ≡ (bytes_of 4 header ++ (size ∷ [])) ++ (0 ∷ 0 ∷ 0 ∷ [])
unfolding bytes_of
front_bytes header size few =
    let five = bytes_of 4 header ++ (size ∷ []) in
    let a : (header * 0x100000000 + size * 0x1000000) / 256 ≡ header * 0x1000000 + size * 0x10000 = omega arith in
    let b : (header * 0x1000000 + size * 0x10000) / 256 ≡ header * 0x10000 + size * 0x100 = omega arith in
    let d : (header * 0x10000 + size * 0x100) / 256 ≡ header * 0x100 + size = omega arith in
    let e : (header * 0x100 + size) / 256 ≡ header = omega arith in
    let a₀ : (header * 0x100000000 + size * 0x1000000) % 256 ≡ 0 = omega arith in
    let b₀ : (header * 0x1000000 + size * 0x10000) % 256 ≡ 0 = omega arith in
    let d₀ : (header * 0x10000 + size * 0x100) % 256 ≡ 0 = omega arith in
    let e₀ : (header * 0x100 + size) % 256 ≡ size = omega arith in
    ap₂ (λ (x y : ℕ). bytes_of 7 x ++ (y ∷ [])) a a₀
    ∙ ap₂ (λ (x y : ℕ). (bytes_of 6 x ++ (y ∷ [])) ++ (0 ∷ [])) b b₀
    ∙ ap₂ (λ (x y : ℕ). ((bytes_of 5 x ++ (y ∷ [])) ++ (0 ∷ [])) ++ (0 ∷ [])) d d₀
    ∙ ap₂ (λ (x y : ℕ). (((bytes_of 4 x ++ (y ∷ [])) ++ (0 ∷ [])) ++ (0 ∷ [])) ++ (0 ∷ [])) e e₀
    ∙ append_assoc (five ++ (0 ∷ [])) (0 ∷ []) (0 ∷ [])
    ∙ append_assoc five (0 ∷ []) (0 ∷ 0 ∷ [])

-- The header's four bytes, the length, and eight bytes of a number.
abbrev pub spelled_out : ℕ → ℕ → ℕ → List ℕ
spelled_out header size number = bytes_of 4 header ++ ((size ∷ []) ++ bytes_of 8 number)

pub spelled_length : (header size number : ℕ) → length (spelled_out header size number) ≡ 13
spelled_length header size number = length-append (bytes_of 4 header) ((size ∷ []) ++ bytes_of 8 number) ∙ omega (arith, bytes_length 4 header, bytes_length 8 number)

frame_put : (header size number at : ℕ) (out first whole : List ℕ) → at + 13 ≤ length out → size < 256
    → first ≡ number_put (header * 0x100000000 + size * 0x1000000) 8 at out → whole ≡ number_put number 8 (at + 5) first
    → whole ≡ pasted at (spelled_out header size number) out
frame_put header size number at out first whole room few e₁ e₂ =
    let front = header * 0x100000000 + size * 0x1000000 in
    let five = bytes_of 4 header ++ (size ∷ []) in
    let c = bytes_of 8 number in
    let lc : length c ≡ 8 = bytes_length 8 number in
    let l₅ : length five ≡ 5 = length-append (bytes_of 4 header) (size ∷ []) ∙ omega (arith, bytes_length 4 header) in
    let s₁ : first ≡ pasted at (bytes_of 8 front) out = e₁ ∙ sym (put_where_room front 8 at out (omega arith)) in
    let l₁ : length first ≡ length out = ap length s₁ ∙ pasted_length at (bytes_of 8 front) out (omega (arith, bytes_length 8 front)) in
    let s₂ : first ≡ pasted (at + 5) (0 ∷ 0 ∷ 0 ∷ []) (pasted at five out)
    = s₁ ∙ ap (λ (l : List ℕ). pasted at l out) (front_bytes header size few) ∙ sym (next at 5 (at + 5) five (0 ∷ 0 ∷ 0 ∷ []) out l₅ refl (omega arith)) in
    let l₂ : length (pasted at five out) ≡ length out = pasted_length at five out (omega arith) in
    e₂
    ∙ sym (put_where_room number 8 (at + 5) first (omega arith))
    ∙ ap (pasted (at + 5) c) s₂
    ∙ covered (at + 5) (0 ∷ 0 ∷ 0 ∷ []) c (pasted at five out) (omega arith) (omega arith)
    ∙ next at 5 (at + 5) five c out l₅ refl (omega arith)
    ∙ ap (λ (l : List ℕ). pasted at l out) (append_assoc (bytes_of 4 header) (size ∷ []) c)

-- 13 bytes are the frame and nothing else.
pub frame_filled : (header size number : ℕ) (out first whole : List ℕ) → length out ≡ 13 → size < 256
    → first ≡ number_put (header * 0x100000000 + size * 0x1000000) 8 0 out → whole ≡ number_put number 8 5 first → whole ≡ spelled_out header size number
frame_filled header size number out first whole room few e₁ e₂ =
    let bytes = spelled_out header size number in
    frame_put header size number 0 out first whole (omega arith) few e₁ e₂
    ∙ pasted_first bytes out
    ∙ ap (λ (l : List ℕ). bytes ++ l) (drop_of_length-le out {i = length bytes} (omega (arith, spelled_length header size number)))
    ∙ append-nil bytes

-- ---- which frame it is

-- A frame with eight bytes.
pub frame_of_eight : (part : Part) (alias x : ℕ) → spelled_out (header_of part alias) 8 x ≡ frame_bytes (frame part alias (bytes_of 8 x))
unfolding frame
frame_of_eight part alias x =
    let rest : bytes_of 8 x ≡ bytes_of 8 x ++ replicate (8 - length (bytes_of 8 x)) 0 = sym (ap (λ (n : ℕ). bytes_of 8 x ++ replicate (8 - n) 0) (bytes_length 8 x) ∙ append-nil (bytes_of 8 x)) in
    ap₂ (λ (n : ℕ) (l : List ℕ). bytes_of 4 (header_of part alias) ++ ((n ∷ []) ++ l)) (sym (bytes_length 8 x)) rest

-- A number times 256^k has k zeros behind its bytes.
zeros_behind : (k w t x : ℕ) → t ≡ w + k → bytes_of t (x * 256 ^ k) ≡ bytes_of w x ++ replicate k 0
unfolding bytes_of
zeros_behind zero w t x e =
    ap₂ bytes_of (e ∙ add-zero w) (ap (λ (p : ℕ). x * p) (pow-zero 256) ∙ mul-one x) ∙ sym (append-nil (bytes_of w x))
zeros_behind (suc k) w t x e =
    let p = 256 ^ k in
    let power : x * 256 ^ suc k ≡ x * p * 256 = ap (λ (q : ℕ). x * q) (pow-suc 256 k) ∙ sym (mul_assoc x p 256) in
    let high : x * 256 ^ suc k / 256 ≡ x * p = omega arith in
    let low : x * 256 ^ suc k % 256 ≡ 0 = omega arith in
    ap (λ (n : ℕ). bytes_of n (x * 256 ^ suc k)) (e ∙ add-suc w k)
    ∙ ap₂ (λ (y b : ℕ). bytes_of (w + k) y ++ (b ∷ [])) high low
    ∙ ap (λ (l : List ℕ). l ++ (0 ∷ [])) (zeros_behind k w (w + k) x refl)
    ∙ append_assoc (bytes_of w x) (replicate k 0) (0 ∷ [])
    ∙ ap (λ (l : List ℕ). bytes_of w x ++ l) (replicate-append-replicate k 1 0 ∙ ap (λ (n : ℕ). replicate n 0) (add-one k))

eight_bits : (n : ℕ) → 2 ^ (8 * n) ≡ 256 ^ n
eight_bits zero = refl
eight_bits (suc n) =
    let more : 8 * suc n ≡ 8 * n + 8 = omega arith in
    ap (λ (k : ℕ). 2 ^ k) more ∙ pow-add 2 (8 * n) 8 ∙ ap (λ (p : ℕ). p * 256) (eight_bits n) ∙ sym (pow-suc 256 n)

-- A frame with one to eight bytes: their number is moved up, so that zeros follow them.
pub frame_of_few : (part : Part) (alias n : ℕ) (s : List ℕ) → Bytes s → length s ≡ n → n ≤ 8
    → spelled_out (header_of part alias) n (number_in s * 2 ^ (64 - 8 * n) % 2 ^ 64) ≡ frame_bytes (frame part alias s)
unfolding frame
frame_of_few part alias n s bytes e few =
    let x = number_in s in
    let free = 8 - n in
    let below : x < 2 ^ (8 * n) = rw (eight_bits n) (number_below s n bytes (omega arith)) in
    let moved : x * 2 ^ (64 - 8 * n) % 2 ^ 64 ≡ x * 256 ^ free
    = shl_exact (8 * n) (64 - 8 * n) 64 below (omega arith) ∙ ap (λ (k : ℕ). x * 2 ^ k) (let k : 64 - 8 * n ≡ 8 * free = omega arith in k) ∙ ap (λ (p : ℕ). x * p) (eight_bits free) in
    let own : bytes_of n x ≡ s = ap (λ (k : ℕ). bytes_of k x) (sym e) ∙ bytes_of_number s bytes in
    let spelt : bytes_of 8 (x * 2 ^ (64 - 8 * n) % 2 ^ 64) ≡ s ++ replicate (8 - length s) 0
    = ap (bytes_of 8) moved ∙ zeros_behind free n 8 x (omega arith) ∙ ap₂ (λ (l : List ℕ) (k : ℕ). l ++ replicate (8 - k) 0) own (sym e) in
    ap₂ (λ (k : ℕ) (l : List ℕ). bytes_of 4 (header_of part alias) ++ ((k ∷ []) ++ l)) (sym e) spelt
