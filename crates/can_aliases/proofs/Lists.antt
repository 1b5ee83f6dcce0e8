-- Where a number stands in a list, and what stands there.
use Rattle.std.proofs.Common.{◌≡◌, ◌≢◌, ℕ, zero, suc, ◌+◌, ◌≤◌, eqb, ltb, cond, length, List, [], ◌∷◌, Some, None, sym, ap, ◌∙◌, refl, arith, position, slice_get, unwrap_or, IfSome, Bool, false}
use Rattle.std.specs.List.{position_or_len}
use Rattle.std.proofs.lemmas.Bool.Decides.{nat_tests}
use Rattle.std.proofs.lemmas.List.Recursion.{is_position_or_len}
use Rattle.std.proofs.lemmas.List.Sums.{prefix_len-le-length}
use Rattle.basics.specs.Lists.{any}
use Rattle.basics.proofs.Bools.{neither}
use Rattle.message.specs.Messages.{bad_node}
use Rattle.can_rules.specs.Aliases.{Aliases, nobody, highest_alias, bad_alias, bad_aliases, place_in}
use Rattle.can_rules.proofs.Aliases.{good_list_lem}

as_searched : (l : List ℕ) (x : ℕ) → place_in l x ≡ position_or_len (λ y. eqb y x) l
unfolding place_in
as_searched l x = is_position_or_len (λ l. place_in l x) (λ y. eqb y x) refl (λ y ys. let e : suc (place_in ys x) ≡ 1 + place_in ys x = omega arith in ap (λ k. cond (eqb y x) 0 k) e) l

found_at : (i n : ℕ) → i ≤ n → unwrap_or (cond (ltb i n) (Some i) None) n ≡ i
found_at i n h = grind (arith, nat_tests)

-- The place, or the length where there is none, as the library's search gives it.
pub place_found : (l : List ℕ) (x : ℕ) → unwrap_or (position (λ y. eqb y x) l) (length l) ≡ place_in l x
place_found l x = found_at _ _ (prefix_len-le-length _ l) ∙ sym (as_searched l x)

-- ---- what stands at a place of a list in bounds

from_good : (test : ℕ → Bool) (P : ℕ → Type 0) → ((x : ℕ) → test x ≡ false → P x) → (l : List ℕ) (i : ℕ) → any test l ≡ false → IfSome (slice_get l i) P
from_good test P so [] i h = tt
from_good test P so (x ∷ xs) zero h = so x (neither (test x) (any test xs) h).0
from_good test P so (x ∷ xs) (suc i) h = from_good test P so xs i (neither (test x) (any test xs) h).1

pub somebody : (l : Aliases) (i : ℕ) → bad_aliases l ≡ false → IfSome (slice_get l.nodes i) (λ n. n ≢ nobody)
somebody l i h = from_good bad_node (λ n. n ≢ nobody) (λ n e. grind (arith, nat_tests)) l.nodes i (good_list_lem l h).nodes_ok

pub low_enough : (l : Aliases) (i : ℕ) → bad_aliases l ≡ false → IfSome (slice_get l.aliases i) (λ a. a ≤ highest_alias)
low_enough l i h = from_good bad_alias (λ a. a ≤ highest_alias) (λ a e. grind (arith, nat_tests)) l.aliases i (good_list_lem l h).aliases_ok
