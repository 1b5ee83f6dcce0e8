-- Bytes by their number, and the first places of a list.
use Prim.Native.Nat.{ℕ, zero, suc, ◌+◌, ◌≤◌}
use mathlib.Core.Path.{◌≡◌, refl, sym, ap, ◌∙◌}
use mathlib.Core.List.{List, [], ◌∷◌, ◌++◌}
use native.Mathlib.Omega.{arith}
use lib.ListN.{length, get_or, take, drop, length-take, length-drop}
use lib.Seq.{take-suc}
use Rattle.numbers.specs.Numbers.{number_in, bytes_of, Bytes, number_at}
use Rattle.numbers.proofs.Laws.{bytes_of_number, part_bytes}
use Rattle.basics.specs.Lists.{each}

pub data_bytes : (s : List ℕ) (at : ℕ) → Bytes s → at + 8 ≤ length s → bytes_of 8 (number_at s at 8) ≡ take 8 (drop at s)
data_bytes s at h fits =
    let part = take 8 (drop at s) in
    let eight : length part ≡ 8 = omega (arith, length-take 8 (drop at s), length-drop at s) in
    ap (λ (n : ℕ). bytes_of n (number_in part)) (sym eight) ∙ bytes_of_number part (part_bytes s at 8 h)

-- The first n are what stands at each of the first n places.
pub first_each : (n : ℕ) (l : List ℕ) → n ≤ length l → take n l ≡ each n (λ i. get_or l i 0)
unfolding each
first_each zero l h = refl
first_each (suc n) l h = take-suc l n 0 h ∙ ap (λ (front : List ℕ). front ++ (get_or l n 0 ∷ [])) (first_each n l (omega arith))
