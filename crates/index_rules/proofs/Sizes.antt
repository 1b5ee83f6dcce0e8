-- What the nine sets of the index say: for each port, which sizes occur there.
use Prim.Native.Nat.{ℕ, ◌≤◌, ◌<◌}
use mathlib.Core.Path.{◌≡◌, refl, sym, ap, ◌∙◌}
use mathlib.Core.Bool.{Bool, true, false}
use mathlib.Core.List.{List}
use native.Mathlib.Omega.{arith}
use borrow.Author.Tests.{ltb-true, ltb-false}
use lib.Dec.{ltb}
use Rattle.basics.specs.Sets.{in_set}
use Rattle.basics.proofs.Sets.{member_of_set}
use Rattle.gateway_rules.specs.declared.Line.{Line}
use Rattle.index_rules.specs.Index.{occurs, index_of}
use Rattle.index_rules.specs.Looking.{has_size}
use Rattle.index_rules.proofs.SizeSets.{set_of_port, set_of_whole}

-- The index has a size at a port where a line of that size stands there.
pub has_size_lem : (lines : List Line) (p k : ℕ) → p < 8 → k ≤ 64 → has_size (index_of lines) p k ≡ occurs lines p k
unfolding index_of
has_size_lem lines p k there small = go (ltb k 64) refl
  where
    go : (t : Bool) → ltb k 64 ≡ t → has_size (index_of lines) p k ≡ occurs lines p k
    go true e = rw e (ap (λ (s : ℕ). in_set s k) (set_of_port (occurs lines) p there) ∙ member_of_set 64 (occurs lines p) k (ltb-true k 64 e))
    go false e =
        let last : k ≡ 64 = omega (arith, ltb-false k 64 e) in
        rw e (ap (λ (s : ℕ). in_set s p) (set_of_whole (occurs lines)) ∙ member_of_set 8 (λ q. occurs lines q 64) p there ∙ ap (occurs lines p) (sym last))
