-- The set of the slots that a message matches.
use Prim.Native.Nat.{ℕ, zero, suc, ◌+◌, ◌^◌, ◌≤◌}
use mathlib.Core.Path.{◌≡◌, sym, ap, ◌∙◌}
use mathlib.Core.Logic.{⊎_elim}
use mathlib.Core.Bool.{Bool, cond, ◌&&◌}
use native.Mathlib.Nat.{add-zero, eq-or-lt_of_le, le_of_suc-le-suc}
use native.Mathlib.Omega.{arith}
use borrow.Author.Tests.{lt-ltb, le-ltb}
use lib.Dec.{ltb}
use Rattle.basics.specs.Sets.{set_of}
use Rattle.basics.proofs.Sets.{set_ext}

-- A set of numbers below n, in a greater width.
pub set_within : (n width : ℕ) (f : ℕ → Bool) → n ≤ width → set_of n f ≡ set_of width (λ i. ltb i n && f i)
unfolding set_of
set_within n zero f h = let e : n ≡ 0 = omega arith in ap (λ (k : ℕ). set_of k f) e
set_within n (suc width) f h =
    let g : ℕ → Bool = λ i. ltb i n && f i in
    ⊎_elim (λ e. set_ext n f g (λ p l. ap (λ (t : Bool). t && f p) (sym (lt-ltb p n l))) ∙ ap (λ (k : ℕ). set_of k g) e)
    (λ l.
    let below = le_of_suc-le-suc l in
    set_within n width f below ∙ sym (ap (λ (t : Bool). set_of width g + cond (t && f width) (2 ^ width) 0) (le-ltb width n below) ∙ add-zero (set_of width g)))
    (eq-or-lt_of_le h)
