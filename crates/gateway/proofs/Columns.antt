-- The test of all lines, taken apart by the lists in which their parts stand.
use Prim.Native.Nat.{ℕ, zero, suc, ◌+◌, ◌/◌, ◌^◌, ◌≤◌, ◌<◌}
use mathlib.Core.Path.{◌≡◌, refl, sym, ap, ap₂, ◌∙◌}
use mathlib.Core.Bool.{Bool, true, false, not, ◌||◌}
use mathlib.Core.List.{List, [], ◌∷◌}
use native.Mathlib.Omega.{arith}
use borrow.Author.Tests.{eq-eqb, ne_eqb, eqb-true, eqb-false, leb-true, leb-false}
use lib.Dec.{eqb, leb}
use Rattle.message.specs.Messages.{bad_node}
use Rattle.basics.specs.Lists.{any, each}
use Rattle.basics.proofs.Lists.{any_append}
use Rattle.gateway_rules.specs.declared.Line.{Line}
use Rattle.gateway_rules.specs.State.{bad_line}
use lib.ListN.{length, get_or, take}
use lib.Seq.{ext_get_or}
use Rattle.std.proofs.lemmas.List.{get_or-take, length-take-le}
use Rattle.basics.proofs.Each.{each_length, each_at}
use Rattle.gateway.specs.State.{Lists, Whole, line_at, lines_in, first_numbers, first_blocks, no_block, not_block}

module _ {A : Type 0} where
  -- One of two tests is passed by some, if the one is or the other is.
  pub any_either : (f g : A → Bool) (xs : List A) → any (λ x. f x || g x) xs ≡ (any f xs || any g xs)
  any_either f g [] = refl
  any_either f g (x ∷ xs) = ap (λ (t : Bool). (f x || g x) || t) (any_either f g xs) ∙ turned (f x) (g x) (any f xs) (any g xs)
    where
      turned : (a b c d : Bool) → ((a || b) || (c || d)) ≡ ((a || c) || (b || d))
      turned true b c d = refl
      turned false true true d = refl
      turned false true false d = refl
      turned false false c d = refl

  -- A test of a part of each line is one of the list of those parts.
  any_part : (test : A → Bool) (part : Line → A) (n : ℕ) (at : ℕ → Line) → any (λ l. test (part l)) (each n at) ≡ any test (each n (λ i. part (at i)))
  unfolding each
  any_part test part zero at = refl
  any_part test part (suc n) at =
      any_append (λ l. test (part l)) (each n at) (at n ∷ [])
      ∙ ap (λ (t : Bool). t || any test (part (at n) ∷ [])) (any_part test part n at)
      ∙ sym (any_append test (each n (λ i. part (at i))) (part (at n) ∷ []))

pub bad_lines_parts : (below n : ℕ) (t : Lists)
    → any (bad_line below) (lines_in n t)
    ≡ (any (leb below) (first_numbers n t.ports) || (any bad_node (first_numbers n t.nodes) || any not_block (first_blocks n t.starts t.sizes)))
bad_lines_parts below n t =
    let lines = lines_in n t in
    any_either (λ l. leb below l.port) (λ l. bad_node l.node || no_block l) lines
    ∙ ap₂ (λ (a b : Bool). a || b)
    (any_part (leb below) (λ l. l.port) n (line_at t))
    (any_either (λ l. bad_node l.node) no_block lines
    ∙ ap₂ (λ (a b : Bool). a || b) (any_part bad_node (λ l. l.node) n (line_at t)) (any_part not_block (λ l. l.block) n (line_at t)))

first_taken : (n : ℕ) (xs : List ℕ) → n ≤ length xs → first_numbers n xs ≡ take n xs
first_taken n xs l =
    ext_get_or 0 (first_numbers n xs) (take n xs) (each_length n (λ i. get_or xs i 0) ∙ sym (length-take-le n xs l))
    (λ i k. let b : i < n = omega (arith, k, each_length n (λ i. get_or xs i 0)) in each_at n (λ i. get_or xs i 0) 0 i b ∙ sym (get_or-take n xs i 0 b))

-- The same of the fronts of the lists.
pub bad_lines_taken : (below n : ℕ) (t : Lists) → Whole t → n ≤ 256
    → any (bad_line below) (lines_in n t) ≡ (any (leb below) (take n t.ports) || (any bad_node (take n t.nodes) || any not_block (first_blocks n t.starts t.sizes)))
bad_lines_taken below n t w l =
    bad_lines_parts below n t
    ∙ ap₂ (λ (ports nodes : List ℕ). any (leb below) ports || (any bad_node nodes || any not_block (first_blocks n t.starts t.sizes)))
    (first_taken n t.ports (omega (arith, l, w.2))) (first_taken n t.nodes (omega (arith, l, w.0)))

-- ---- what is above six bytes, added up

pub raised : (above node : ℕ) → not (eqb (above + node / 2 ^ 48) 0) ≡ (not (eqb above 0) || leb (2 ^ 48) node)
raised above node = go (eqb above 0) refl (leb (2 ^ 48) node) refl
  where
    more : ℕ
    more = above + node / 2 ^ 48

    go : (a : Bool) → eqb above 0 ≡ a → (b : Bool) → leb (2 ^ 48) node ≡ b → not (eqb more 0) ≡ (not a || b)
    go false e b f = ap not (ne_eqb more 0 (λ z. eqb-false above 0 e (omega (arith, z))))
    go true e true f = ap not (ne_eqb more 0 (λ z. omega (arith, z, leb-true (2 ^ 48) node f)))
    go true e false f = ap not (eq-eqb more 0 (omega (arith, eqb-true above 0 e, leb-false (2 ^ 48) node f)))
