-- Frames written out: thirteen bytes each, from which each frame is read back.
use Prim.Native.Nat.{ℕ, zero, suc, ◌+◌, ◌*◌, ◌^◌, ◌≤◌, ◌<◌}
use mathlib.Core.Path.{◌≡◌, refl, sym, ap, ◌∙◌}
use mathlib.Core.Bool.{Bool, false, not, ◌||◌}
use mathlib.Core.List.{List, [], ◌∷◌, ◌++◌, append-nil, append_assoc}
use native.Mathlib.Nat.{mod-eq_of_lt, le_of_suc-le-suc, not-suc-le-zero}
use native.Mathlib.Omega.{arith}
use borrow.Author.Tests.{eqb-true, ltb-false, leb-false, not-false}
use lib.Dec.{eqb, leb, ltb}
use lib.ListN.{length, get_or, take, drop, length-append}
use lib.Seq.{take_at, drop_at, get_or_at, get_or-drop, drop-drop, drop-append-add}
use Rattle.numbers.specs.Numbers.{number_in, bytes_of}
use Rattle.numbers.proofs.Laws.{bytes_length, number_of_bytes}
use Rattle.basics.specs.Lists.{any}
use Rattle.basics.proofs.Bools.{neither}
use Rattle.can_rules.specs.declared.Frame.{Frame}
use Rattle.can_rules.specs.Frames.{frame_bytes, all_bytes, frame_at}

-- ---- one frame

-- A frame that stands in a byte string is read from it.
pub frame_there : (f : Frame) (s rest : List ℕ) (at : ℕ) → f.header < 2 ^ 32 → length f.bytes ≡ 8 → drop at s ≡ frame_bytes f ++ rest → frame_at s at ≡ f
unfolding frame_at
frame_there f s rest at fits eight e =
    let head = bytes_of 4 f.header in
    let four : length head ≡ 4 = bytes_length 4 f.header in
    let whole : drop at s ≡ head ++ (f.length ∷ (f.bytes ++ rest)) = e ∙ append_assoc head (f.length ∷ f.bytes) rest in
    let header : number_in (take 4 (drop at s)) ≡ f.header
    = ap (λ (x : List ℕ). number_in (take 4 x)) whole
    ∙ ap number_in (take_at head (f.length ∷ (f.bytes ++ rest)) 4 four)
    ∙ number_of_bytes 4 f.header
    ∙ mod-eq_of_lt fits in
    let size : get_or s (at + 4) 0 ≡ f.length
    = sym (get_or-drop at s 4 0) ∙ ap (λ (x : List ℕ). get_or x 4 0) whole ∙ get_or_at head f.length (f.bytes ++ rest) 0 4 four in
    let bytes : take 8 (drop (at + 5) s) ≡ f.bytes
    = ap (take 8) (
    sym (drop-drop 5 at s) ∙ ap (drop 5) (whole ∙ sym (append_assoc head (f.length ∷ []) (f.bytes ++ rest)))
    ∙ drop_at (head ++ (f.length ∷ [])) (f.bytes ++ rest) 5 (length-append head (f.length ∷ []) ∙ ap (λ (k : ℕ). k + 1) four)
    ) ∙ take_at f.bytes rest 8 eight in
    λ i. record { header = header i; length = size i; bytes = bytes i }

-- Written out and read again it is the frame.
pub frame_back : (f : Frame) → f.header < 2 ^ 32 → length f.bytes ≡ 8 → frame_at (frame_bytes f) 0 ≡ f
frame_back f fits eight = frame_there f (frame_bytes f) [] 0 fits eight (sym (append-nil (frame_bytes f)))

-- ---- all frames

-- No frame of the bus: a header of more than 29 bits, more than eight bytes in use, or not eight bytes in all.
abbrev pub off_bus : Frame → Bool
off_bus f = leb (2 ^ 29) f.header || (ltb 8 f.length || not (eqb (length f.bytes) 8))

pub record OnBus (f : Frame) : Type 0 where
  pub header_fits : f.header < 2 ^ 29
  pub few : f.length ≤ 8
  pub eight : length f.bytes ≡ 8

pub on_bus : (f : Frame) → off_bus f ≡ false → OnBus f
on_bus f h =
    let a = neither (leb (2 ^ 29) f.header) _ h in
    let b = neither (ltb 8 f.length) _ a.1 in
    record {
      header_fits = leb-false (2 ^ 29) f.header a.0;
      few = ltb-false 8 f.length b.0;
      eight = eqb-true (length f.bytes) 8 (not-false (eqb (length f.bytes) 8) b.1);
    }

pub frame_size : (f : Frame) → length f.bytes ≡ 8 → length (frame_bytes f) ≡ 13
frame_size f eight = omega (arith, length-append (bytes_of 4 f.header) (f.length ∷ f.bytes), bytes_length 4 f.header)

abbrev pub not_eight : Frame → Bool
not_eight f = not (eqb (length f.bytes) 8)

pub frames_size : (fs : List Frame) → any not_eight fs ≡ false → length (all_bytes fs) ≡ 13 * length fs
unfolding all_bytes
frames_size [] h = refl
frames_size (f ∷ fs) h =
    let k = neither (not_eight f) (any not_eight fs) h in
    let eight = eqb-true (length f.bytes) 8 (not-false (eqb (length f.bytes) 8) k.0) in
    omega (arith, length-append (frame_bytes f) (all_bytes fs), frame_size f eight, frames_size fs k.1)

-- The i-th frame stands at 13 times i.
frame_place : (fs : List Frame) (i : ℕ) (d : Frame) → any off_bus fs ≡ false → i < length fs → drop (13 * i) (all_bytes fs) ≡ frame_bytes (get_or fs i d) ++ all_bytes (drop (suc i) fs)
unfolding all_bytes
frame_place [] i d h l = absurd (not-suc-le-zero l)
frame_place (f ∷ fs) zero d h l = refl
frame_place (f ∷ fs) (suc i) d h l =
    let k = neither (off_bus f) (any off_bus fs) h in
    let size = frame_size f (on_bus f k.0).eight in
    let next : 13 * suc i ≡ length (frame_bytes f) + 13 * i = omega arith in
    ap (λ (x : ℕ). drop x (frame_bytes f ++ all_bytes fs)) next ∙ drop-append-add (frame_bytes f) (all_bytes fs) (13 * i) ∙ frame_place fs i d k.1 (le_of_suc-le-suc l)

nth_on_bus : (fs : List Frame) (i : ℕ) (d : Frame) → any off_bus fs ≡ false → i < length fs → OnBus (get_or fs i d)
nth_on_bus [] i d h l = absurd (not-suc-le-zero l)
nth_on_bus (f ∷ fs) zero d h l = on_bus f (neither (off_bus f) (any off_bus fs) h).0
nth_on_bus (f ∷ fs) (suc i) d h l = nth_on_bus fs i d (neither (off_bus f) (any off_bus fs) h).1 (le_of_suc-le-suc l)

-- Frames of the bus that are written out one after another are read back, each from its place.
pub frames_back : (fs : List Frame) (i : ℕ) (d : Frame) → any off_bus fs ≡ false → i < length fs → frame_at (all_bytes fs) (13 * i) ≡ get_or fs i d
frames_back fs i d h l =
    let b = nth_on_bus fs i d h l in
    let fits = b.header_fits in
    frame_there (get_or fs i d) (all_bytes fs) (all_bytes (drop (suc i) fs)) (13 * i) (omega arith) b.eight (frame_place fs i d h l)
