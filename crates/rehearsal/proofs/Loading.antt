-- A list whose first i numbers are filled in by a function.
use Prim.Native.Nat.{ℕ, ◌+◌, ◌≤◌, ◌<◌}
use mathlib.Core.Path.{◌≡◌, refl, ap, ◌∙◌}
use mathlib.Core.List.{List, ◌++◌}
use native.Mathlib.Omega.{arith}
use lib.ListN.{length, take, drop, set, length-set}
use lib.Seq.{take_at}
use Rattle.basics.specs.Lists.{each}
use Rattle.basics.proofs.Each.{each_none, each_more, each_length}

pub record Loaded (f : ℕ → ℕ) (start : List ℕ) (i : ℕ) (out : List ℕ) : Type 0 where
  pub inside : i ≤ length start
  pub size : length out ≡ length start
  pub numbers : out ≡ each i f ++ drop i start

pub loaded_none : (f : ℕ → ℕ) (start : List ℕ) → Loaded f start 0 start
loaded_none f start = record { inside = omega arith; size = refl; numbers = each_none f start }

module _ {f : ℕ → ℕ} {start : List ℕ} {i : ℕ} {out : List ℕ} (l : Loaded f start i out) where
  pub loaded_next : {x : ℕ} → i < length start → x ≡ f i → Loaded f start (i + 1) (set out i x)
  loaded_next {x} h e = record {
    inside = omega arith;
    size = length-set out i x ∙ l.size;
    numbers = each_more 0 f i start out l.numbers h x e;
  }

  -- The first places are filled in.
  pub loaded_first : take i out ≡ each i f
  loaded_first = ap (take i) l.numbers ∙ take_at (each i f) (drop i start) i (each_length i f)
