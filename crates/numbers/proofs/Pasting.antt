-- Bytes put into an output one after the other.
use Prim.Native.Nat.{ℕ, ◌+◌, ◌-◌, ◌≤◌}
use mathlib.Core.Path.{◌≡◌, refl, sym, ap, ap₂, ◌∙◌}
use mathlib.Core.List.{List, [], ◌++◌, append_assoc}
use native.Mathlib.Nat.{zero-add, add_assoc}
use native.Mathlib.Omega.{arith}
use lib.ListN.{length, take, drop, length-append, length-drop}
use lib.Seq.{paste, length-take-le, take_at, drop_at, take-length, drop-drop}
use Rattle.numbers.specs.Numbers.{bytes_of, pasted}
use Rattle.numbers.proofs.Laws.{bytes_length}

-- A part that was lent comes back with as many bytes: they are put in at its place.
pub part_back : (at w : ℕ) (out ys : List ℕ) → length ys ≡ w → take at out ++ (ys ++ drop (at + w - at) (drop at out)) ≡ pasted at ys out
part_back at w out ys e =
    let width : at + w - at ≡ length ys = omega (arith, e) in
    ap (λ (r : List ℕ). take at out ++ (ys ++ r)) (ap (λ (n : ℕ). drop n (drop at out)) width ∙ drop-drop (length ys) at out)

-- It comes back filled with a number.
pub part_filled : (at w x : ℕ) (out ys : List ℕ) → at + w ≤ length out → ys ≡ bytes_of (length (take (at + w - at) (drop at out))) x
    → take at out ++ (ys ++ drop (at + w - at) (drop at out)) ≡ pasted at (bytes_of w x) out
part_filled at w x out ys h e =
    let width : at + w - at ≡ w = omega arith in
    let rest = length-drop at out in
    let filled : length (take w (drop at out)) ≡ w = length-take-le w (drop at out) (omega arith) in
    let bytes : ys ≡ bytes_of w x = (rw width at e) ∙ ap (λ (n : ℕ). bytes_of n x) filled in
    part_back at w out ys (ap length bytes ∙ bytes_length w x) ∙ ap (λ (l : List ℕ). pasted at l out) bytes

-- A whole list that was copied byte by byte.
pub all_copied : (at : ℕ) (out body : List ℕ) → paste out at body (length body) ≡ pasted at body out
all_copied at out body =
    ap (λ (l : List ℕ). take at out ++ l ++ drop (at + length body) out) (take-length body)
    ∙ append_assoc (take at out) body (drop (at + length body) out)

-- Two pieces put in one after the other are one piece.
pub pasted_next : (at : ℕ) (xs ys out : List ℕ) → at + length xs ≤ length out → pasted (at + length xs) ys (pasted at xs out) ≡ pasted at (xs ++ ys) out
pasted_next at xs ys out h =
    let head = take at out ++ xs in
    let rest = drop (at + length xs) out in
    let size : length head ≡ at + length xs = length-append (take at out) xs ∙ ap (λ (n : ℕ). n + length xs) (length-take-le at out (omega arith)) in
    let whole : pasted at xs out ≡ head ++ rest = sym (append_assoc (take at out) xs rest) in
    let front : take (at + length xs) (pasted at xs out) ≡ head = ap (take (at + length xs)) whole ∙ take_at head rest (at + length xs) size in
    let back : drop (at + length xs + length ys) (pasted at xs out) ≡ drop (at + length (xs ++ ys)) out
    = sym (drop-drop (length ys) (at + length xs) (pasted at xs out))
    ∙ ap (drop (length ys)) (ap (drop (at + length xs)) whole ∙ drop_at head rest (at + length xs) size)
    ∙ drop-drop (length ys) (at + length xs) out
    ∙ ap (λ (n : ℕ). drop n out) (add_assoc at (length xs) (length ys) ∙ ap (λ (n : ℕ). at + n) (sym (length-append xs ys))) in
    ap₂ (λ (f b : List ℕ). f ++ (ys ++ b)) front back
    ∙ append_assoc (take at out) xs (ys ++ drop (at + length (xs ++ ys)) out)
    ∙ ap (λ (l : List ℕ). take at out ++ l) (sym (append_assoc xs ys (drop (at + length (xs ++ ys)) out)))

pub pasted_length : (at : ℕ) (xs out : List ℕ) → at + length xs ≤ length out → length (pasted at xs out) ≡ length out
pasted_length at xs out h =
    let front = length-take-le at out (omega arith) in
    let back = length-drop (at + length xs) out in
    length-append (take at out) (xs ++ drop (at + length xs) out) ∙ ap (λ (n : ℕ). length (take at out) + n) (length-append xs (drop (at + length xs) out)) ∙ omega arith

pub pasted_first : (bytes out : List ℕ) → pasted 0 bytes out ≡ bytes ++ drop (length bytes) out
pasted_first bytes out = ap (λ (n : ℕ). bytes ++ drop n out) (zero-add (length bytes))

-- What has been written so far, and the place after it.
pub record Wrote (start bytes : List ℕ) (next : ℕ) (out : List ℕ) : Type 0 where
  pub place : next ≡ length bytes
  pub left : out ≡ pasted 0 bytes start

pub wrote_none : (start : List ℕ) → Wrote start [] 0 start
wrote_none start = record { place = refl; left = refl }

module _ {start bytes out : List ℕ} {at : ℕ} (w : Wrote start bytes at out) (ys : List ℕ) (room : length (bytes ++ ys) ≤ length start) where
  wrote_fits : length bytes + length ys ≤ length start
  wrote_fits = omega (arith, room, length-append bytes ys)

  pub wrote_room : at + length ys ≤ length out
  wrote_room =
      let size : length out ≡ length start = ap length w.left ∙ pasted_length 0 bytes start (omega (arith, wrote_fits)) in
      omega (arith, wrote_fits, size, w.place)

  pub wrote_more : {next : ℕ} {after : List ℕ} → next ≡ at + length ys → after ≡ pasted at ys out → Wrote start (bytes ++ ys) next after
  wrote_more e f = record {
    place = e ∙ ap (λ (n : ℕ). n + length ys) w.place ∙ sym (length-append bytes ys);
    left = f ∙ ap₂ (λ (n : ℕ) (l : List ℕ). pasted n ys l) (w.place ∙ sym (zero-add (length bytes))) w.left
        ∙ pasted_next 0 bytes ys start (omega (arith, wrote_fits));
  }
