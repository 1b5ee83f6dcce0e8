-- A payload that grows.
use Rattle.std.proofs.Common.{◌≡◌, ℕ, zero, suc, ◌+◌, ◌≤◌, List, [], ◌∷◌, ◌++◌, length, get_or, take, sym, ap, ◌∙◌, refl, arith}
use Rattle.std.proofs.Math.Seq.{take-suc}
use Rattle.std.proofs.lemmas.Slice.{take-put_mid}
use borrow.Rule.Slice.PartMut.{put_mid, mid_of, same_len_mid}
use Rattle.basics.specs.Lists.{each}

-- The first n places of a payload that has as many are its first n bytes.
pub first_bytes : (xs : List ℕ) (n : ℕ) → n ≤ length xs → each n (λ i. get_or xs i 0) ≡ take n xs
unfolding each
first_bytes xs zero h = refl
first_bytes xs (suc n) h = ap (λ front. front ++ (get_or xs n 0 ∷ [])) (first_bytes xs n (omega arith)) ∙ sym (take-suc xs n 0 h)

-- Bytes that are put at the end of those in use.
pub longer_by : (xs ys zs : List ℕ) (at k : ℕ) → ys ≡ zs → at + length zs ≤ length xs → length ys ≡ length (mid_of at k xs)
    → each (at + length zs) (λ i. get_or (put_mid at k xs ys) i 0) ≡ each at (λ i. get_or xs i 0) ++ zs
longer_by xs ys zs at k f h e =
    let same = same_len_mid at k xs ys e in
    let size = ap length f in
    first_bytes (put_mid at k xs ys) (at + length zs) (omega arith)
    ∙ take-put_mid at k xs ys (at + length zs) (omega arith) (omega arith)
    ∙ (λ i. sym (first_bytes xs at (omega arith)) i ++ f i)
