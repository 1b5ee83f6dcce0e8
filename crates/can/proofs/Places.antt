-- The two places of the code, and the rules' list of what is begun.
use Prim.Native.Nat.{ℕ, zero, suc, ◌-◌, ◌≤◌, ◌<◌}
use mathlib.Core.Path.{◌≡◌, refl, sym, ap, ap₂, subst, ◌∙◌}
use mathlib.Core.Bool.{Bool, true, false, ◌||◌, or-false}
use mathlib.Core.List.{List, [], ◌∷◌, ◌++◌, map}
use native.Mathlib.Omega.{arith}
use borrow.Author.Tests.{eq-eqb, ne_eqb, lt-ltb, ltb-false}
use lib.Dec.{eqb, ltb}
use lib.ListN.{length, get_or, set}
use Rattle.std.specs.Prelude.{remove}
use Rattle.basics.specs.Lists.{any, each}
use Rattle.basics.proofs.Bools.{neither}
use Rattle.basics.proofs.Each.{each_length, each_at}
use Rattle.can_rules.specs.Aliases.{repeats}
use Rattle.can_rules.specs.Joining.{Begun, bad_joining, too_long, has_begun, of_sender}
use Rattle.can.specs.declared.Gathered.{Gathered}
use Rattle.can.specs.declared.Joining.{Joining}
use Rattle.can.specs.States.{payload_of, begun_of, with_more, gathered_at, state_of, Only, here, later}

-- ---- the list, place by place

module _ (j : Joining) where
  pub state_length : length (state_of j) ≡ j.count
  unfolding state_of
  state_length = each_length j.count (λ i. begun_of (gathered_at j i))

  pub state_at : (b : Begun) (i : ℕ) → i < j.count → get_or (state_of j) i b ≡ begun_of (gathered_at j i)
  unfolding state_of
  state_at b i h = each_at j.count (λ i. begun_of (gathered_at j i)) b i h

  abbrev listed_up_to : ℕ → List Begun
  listed_up_to n = each n (λ i. begun_of (gathered_at j i))

  pub of_none : j.count ≡ 0 → state_of j ≡ []
  unfolding state_of each
  of_none e = ap listed_up_to e

  pub of_one : j.count ≡ 1 → state_of j ≡ begun_of j.first ∷ []
  unfolding state_of each
  of_one e = ap listed_up_to e

  pub of_two : j.count ≡ 2 → state_of j ≡ begun_of j.first ∷ begun_of j.second ∷ []
  unfolding state_of each
  of_two e = ap listed_up_to e

-- The length of a place's payload is the number that it has.
pub payload_length : (g : Gathered) → length (payload_of g) ≡ g.length
payload_length g = each_length g.length _

-- ---- out of bounds

or_assoc : (a b c : Bool) → ((a || b) || c) ≡ (a || (b || c))
or_assoc true b c = refl
or_assoc false b c = refl

module _ (j : Joining) where
  abbrev sent : List Begun → List ℕ
  sent s = map (λ b. b.sender) s

  abbrev bad : List Begun → Bool
  bad s = ltb 2 (length s) || (any too_long s || repeats (sent s))

  pub good_none : j.count ≡ 0 → false ≡ bad_joining (state_of j)
  unfolding bad_joining
  good_none e = sym (ap bad (of_none j e))

  pub bounds_one : j.count ≡ 1 → ltb 256 j.first.length ≡ bad_joining (state_of j)
  unfolding bad_joining
  bounds_one e =
      sym (ap bad (of_one j e) ∙ or-false (ltb 256 (length (payload_of j.first)) || false) ∙ or-false (ltb 256 (length (payload_of j.first))) ∙ ap (ltb 256) (payload_length j.first))

  pub bounds_two : j.count ≡ 2 → (ltb 256 j.first.length || (ltb 256 j.second.length || eqb j.second.sender j.first.sender)) ≡ bad_joining (state_of j)
  unfolding bad_joining
  bounds_two e =
      sym (ap bad (of_two j e)
      ∙ (λ i. (ltb 256 (payload_length j.first i) || (or-false (ltb 256 (payload_length j.second i)) i)) || (or-false (or-false (eqb j.second.sender j.first.sender) i) i))
      ∙ or_assoc (ltb 256 j.first.length) (ltb 256 j.second.length) (eqb j.second.sender j.first.sender))

  pub many : 2 < j.count → true ≡ bad_joining (state_of j)
  unfolding bad_joining
  many h = sym (ap (λ (t : Bool). t || (any too_long (state_of j) || repeats (sent (state_of j)))) (lt-ltb 2 (length (state_of j)) (let n = state_length j in omega arith)))

  -- In bounds two are followed at most, and each has 256 bytes at most.
  module _ (good : bad_joining (state_of j) ≡ false) where
    pub few_senders : j.count ≤ 2
    unfolding bad_joining
    few_senders = let n = state_length j in let few = ltb-false 2 (length (state_of j)) (neither _ _ good).0 in omega arith

    pub none_long : any too_long (state_of j) ≡ false
    unfolding bad_joining
    none_long = (neither (any too_long (state_of j)) _ (neither (ltb 2 (length (state_of j))) _ good).1).0

-- ---- what becomes of the list

module _ (j k : Joining) (few : j.count ≤ 2) where
  pub removed_first : (i : ℕ) → i ≡ 0 → i < j.count → k.count ≡ j.count - 1 → k.first ≡ j.second → state_of k ≡ remove (state_of j) i
  removed_first i z some c f = subst (λ n. state_of k ≡ remove (state_of j) n) (sym z) (go j.count refl (omega arith) few)
    where
      go : (n : ℕ) → j.count ≡ n → 0 < n → n ≤ 2 → state_of k ≡ remove (state_of j) 0
      go zero e some few = absurd (omega arith)
      go (suc zero) e some few = of_none k (omega arith) ∙ sym (ap (λ s. remove s 0) (of_one j e))
      go (suc (suc zero)) e some few = of_one k (omega arith) ∙ ap (λ g. begun_of g ∷ []) f ∙ sym (ap (λ s. remove s 0) (of_two j e))
      go (suc (suc (suc n))) e some few = absurd (omega arith)

  pub removed_second : (i : ℕ) → i ≡ 1 → i < j.count → k.count ≡ j.count - 1 → k.first ≡ j.first → state_of k ≡ remove (state_of j) i
  removed_second i z two c f =
      subst (λ n. state_of k ≡ remove (state_of j) n) (sym z)
      (of_one k (omega arith) ∙ ap (λ g. begun_of g ∷ []) f ∙ sym (ap (λ s. remove s 1) (of_two j (omega arith))))

  module _ (bytes : List ℕ) where
    pub grown_first : (i : ℕ) → i ≡ 0 → i < j.count → k.count ≡ j.count → begun_of k.first ≡ with_more j.first bytes → k.second ≡ j.second
        → state_of k ≡ set (state_of j) i (with_more (gathered_at j i) bytes)
    grown_first i z some c f g = subst (λ n. state_of k ≡ set (state_of j) n (with_more (gathered_at j n) bytes)) (sym z) (go j.count refl (omega arith) few)
      where
        go : (n : ℕ) → j.count ≡ n → 0 < n → n ≤ 2 → state_of k ≡ set (state_of j) 0 (with_more j.first bytes)
        go zero e some few = absurd (omega arith)
        go (suc zero) e some few = of_one k (omega arith) ∙ ap (λ x. x ∷ []) f ∙ sym (ap (λ s. set s 0 (with_more j.first bytes)) (of_one j e))
        go (suc (suc zero)) e some few = of_two k (omega arith) ∙ ap₂ (λ x y. x ∷ begun_of y ∷ []) f g ∙ sym (ap (λ s. set s 0 (with_more j.first bytes)) (of_two j e))
        go (suc (suc (suc n))) e some few = absurd (omega arith)

    pub grown_second : (i : ℕ) → i ≡ 1 → i < j.count → k.count ≡ j.count → k.first ≡ j.first → begun_of k.second ≡ with_more j.second bytes
        → state_of k ≡ set (state_of j) i (with_more (gathered_at j i) bytes)
    grown_second i z two c f g =
        subst (λ n. state_of k ≡ set (state_of j) n (with_more (gathered_at j n) bytes)) (sym z)
        (of_two k (omega arith) ∙ ap₂ (λ x y. begun_of x ∷ y ∷ []) f g ∙ sym (ap (λ s. set s 1 (with_more j.second bytes)) (of_two j (omega arith))))

pub begun_first : (j k : Joining) (b : Begun) → j.count ≡ 0 → k.count ≡ 1 → begun_of k.first ≡ b → state_of k ≡ state_of j ++ (b ∷ [])
begun_first j k b e c f = of_one k c ∙ ap (λ x. x ∷ []) f ∙ sym (ap (λ s. s ++ (b ∷ [])) (of_none j e))

pub begun_second : (j k : Joining) (b : Begun) → j.count ≡ 1 → k.count ≡ 2 → k.first ≡ j.first → begun_of k.second ≡ b → state_of k ≡ state_of j ++ (b ∷ [])
begun_second j k b e c f g = of_two k c ∙ ap₂ (λ x y. begun_of x ∷ y ∷ []) f g ∙ sym (ap (λ s. s ++ (b ∷ [])) (of_one j e))

-- ---- where what a sender has begun stands

module _ (j : Joining) (n : ℕ) (good : bad_joining (state_of j) ≡ false) where
  -- Of two, the senders differ.
  differ : j.count ≡ 2 → eqb j.second.sender j.first.sender ≡ false
  differ e = (neither (ltb 256 j.second.length) _ (neither (ltb 256 j.first.length) _ (bounds_two j e ∙ good)).1).1

  pub first_place : 0 < j.count → j.first.sender ≡ n → Only (of_sender n) (state_of j) 0
  first_place some f = go j.count refl some (few_senders j good)
    where
      own : of_sender n (begun_of j.first) ≡ true
      own = eq-eqb j.first.sender n f

      go : (c : ℕ) → j.count ≡ c → 0 < c → c ≤ 2 → Only (of_sender n) (state_of j) 0
      go zero e some few = absurd (omega arith)
      go (suc zero) e some few = subst (λ s. Only (of_sender n) s 0) (sym (of_one j e)) (here own refl)
      go (suc (suc zero)) e some few =
          subst (λ s. Only (of_sender n) s 0) (sym (of_two j e))
          (here own (or-false (eqb j.second.sender n) ∙ ap (eqb j.second.sender) (sym f) ∙ differ e))
      go (suc (suc (suc c))) e some few = absurd (omega arith)

  pub second_place : 1 < j.count → (0 < j.count → j.first.sender ≡ n → ⊥) → j.second.sender ≡ n → Only (of_sender n) (state_of j) 1
  second_place two f g =
      let e : j.count ≡ 2 = (let few = few_senders j good in omega arith) in
      subst (λ s. Only (of_sender n) s 1) (sym (of_two j e)) (later (ne_eqb j.first.sender n (f (omega arith))) (here (eq-eqb j.second.sender n g) refl))

  pub no_place : (0 < j.count → j.first.sender ≡ n → ⊥) → (1 < j.count → j.second.sender ≡ n → ⊥) → has_begun n (state_of j) ≡ false
  no_place f g = go j.count refl (few_senders j good)
    where
      go : (c : ℕ) → j.count ≡ c → c ≤ 2 → has_begun n (state_of j) ≡ false
      go zero e few = ap (has_begun n) (of_none j e)
      go (suc zero) e few = ap (has_begun n) (of_one j e) ∙ or-false (eqb j.first.sender n) ∙ ne_eqb j.first.sender n (f (omega arith))
      go (suc (suc zero)) e few =
          ap (has_begun n) (of_two j e) ∙ ap₂ (λ s t. s || (t || false)) (ne_eqb j.first.sender n (f (omega arith))) (ne_eqb j.second.sender n (g (omega arith)))
      go (suc (suc (suc c))) e few = absurd (omega arith)
