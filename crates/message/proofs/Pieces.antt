-- The five pieces of a message, one after the other.
use Prim.Native.Nat.{ℕ, ◌≤◌}
use mathlib.Core.Path.{◌≡◌}
use mathlib.Core.List.{List, ◌++◌, append_assoc}
use native.Mathlib.Omega.{arith}
use lib.ListN.{length, length-append}

module _ (a b d e f : List ℕ) where
  pub joined : a ++ b ++ d ++ e ++ f ≡ a ++ (b ++ (d ++ (e ++ f)))
  joined = simp append_assoc

  pub piece_fits : {n : ℕ} → length (a ++ (b ++ (d ++ (e ++ f)))) ≤ n
      → (length a ≤ n) × (length (a ++ b) ≤ n) × (length (a ++ b ++ d) ≤ n) × (length (a ++ b ++ d ++ e) ≤ n) × (length (a ++ b ++ d ++ e ++ f) ≤ n)
  piece_fits {n} h =
      let whole : length (a ++ b ++ d ++ e ++ f) ≤ n = rw joined h in
      let e₀ = length-append a b in
      let e₁ = length-append (a ++ b) d in
      let e₂ = length-append (a ++ b ++ d) e in
      let e₃ = length-append (a ++ b ++ d ++ e) f in
      (omega arith, omega arith, omega arith, omega arith, whole)
