-- Who stands for whom: where a number stands in a list without repeats, and that the two lookups of a good list undo one another.
use Prim.Native.Nat.{ℕ, zero, suc, ◌≤◌, ◌<◌, suc-le-suc, zero-le}
use mathlib.Core.Path.{◌≡◌, refl, sym, ap, ◌∙◌}
use mathlib.Core.Bool.{Bool, true, false, cond, not, ◌||◌, false≢true}
use mathlib.Core.List.{List, [], ◌∷◌}
use native.Mathlib.Nat.{le_of_suc-le-suc, not-suc-le-zero}
use native.Mathlib.Omega.{arith}
use borrow.Author.Tests.{eqb-true, eqb-false, eq-eqb, ne_eqb, ltb-false, not-false}
use lib.Dec.{eqb, ltb}
use lib.ListN.{length, get_or, get_or-eq_default}
use Rattle.basics.specs.Lists.{any}
use Rattle.basics.proofs.Bools.{neither}
use Rattle.message.specs.Messages.{bad_node}
use Rattle.can_rules.specs.Aliases.{Aliases, listed, repeats, most_pairs, highest_alias, bad_alias, bad_aliases, place_in, nobody, no_alias, node_for, alias_for}

-- ---- examples: the place in one list is the place in the other

pub third_pair : node_for (listed (0x123 ∷ 0x456 ∷ 0x001 ∷ []) (0x0A01 ∷ 0x0A02 ∷ 0x0A03 ∷ [])) 0x001 ≡ 0x0A03
unfolding node_for place_in
third_pair = refl

pub third_alias : alias_for (listed (0x123 ∷ 0x456 ∷ 0x001 ∷ []) (0x0A01 ∷ 0x0A02 ∷ 0x0A03 ∷ [])) 0x0A03 ≡ 0x001
unfolding alias_for place_in
third_alias = refl

-- ---- places

-- Whether a number stands in a list.
abbrev pub stands : ℕ → List ℕ → Bool
stands x xs = any (λ y. eqb y x) xs

-- Where no member passes a test, the one at a place does not.
pub none_at : (test : ℕ → Bool) (xs : List ℕ) (i d : ℕ) → any test xs ≡ false → i < length xs → test (get_or xs i d) ≡ false
none_at test [] i d h l = absurd (not-suc-le-zero l)
none_at test (x ∷ xs) zero d h l = (neither (test x) (any test xs) h).0
none_at test (x ∷ xs) (suc i) d h l = none_at test xs i d (neither (test x) (any test xs) h).1 (le_of_suc-le-suc l)

pub place_back : (xs : List ℕ) (i d : ℕ) → repeats xs ≡ false → i < length xs → place_in xs (get_or xs i d) ≡ i
unfolding place_in
place_back [] i d once l = absurd (not-suc-le-zero l)
place_back (x ∷ xs) zero d once l = rw (eq-eqb x x refl)
place_back (x ∷ xs) (suc i) d once l =
    let h = neither (stands x xs) (repeats xs) once in
    let other = eqb-false (get_or xs i d) x (none_at (λ y. eqb y x) xs i d h.0 (le_of_suc-le-suc l)) in
    rw (ne_eqb x (get_or xs i d) (λ e. other (sym e))) (ap suc (place_back xs i d h.1 (le_of_suc-le-suc l)))

-- What stands in a list stands at its place, and its place is in the list.
pub place_there : (xs : List ℕ) (x d : ℕ) → stands x xs ≡ true → get_or xs (place_in xs x) d ≡ x
unfolding place_in
place_there [] x d h = absurd (false≢true h)
place_there (y ∷ xs) x d h = go (eqb y x) refl h (place_there xs x d)
  where
    go : (t : Bool) → eqb y x ≡ t → (t || stands x xs) ≡ true → (stands x xs ≡ true → get_or xs (place_in xs x) d ≡ x)
        → get_or (y ∷ xs) (cond t 0 (suc (place_in xs x))) d ≡ x
    go true e h later = eqb-true y x e
    go false e h later = later h

pub place_within : (xs : List ℕ) (x : ℕ) → stands x xs ≡ true → place_in xs x < length xs
unfolding place_in
place_within [] x h = absurd (false≢true h)
place_within (y ∷ xs) x h = go (eqb y x) h (place_within xs x)
  where
    go : (t : Bool) → (t || stands x xs) ≡ true → (stands x xs ≡ true → place_in xs x < length xs) → cond t 0 (suc (place_in xs x)) < length (y ∷ xs)
    go true h later = suc-le-suc zero-le
    go false h later = suc-le-suc (later h)

pub place_past : (xs : List ℕ) (x : ℕ) → stands x xs ≡ false → place_in xs x ≡ length xs
unfolding place_in
place_past [] x h = refl
place_past (y ∷ xs) x h = let k = neither (eqb y x) (stands x xs) h in rw k.0 (ap suc (place_past xs x k.1))

-- ---- one list looked up by another of the same length

module _ (keys values : List ℕ) (same : length keys ≡ length values) where
  -- The value that stands for "none" is found exactly where the key is not in its list.
  pub none_exactly : (bad : ℕ → Bool) (none x : ℕ) → any bad values ≡ false → ((v : ℕ) → bad v ≡ false → eqb v none ≡ false)
      → eqb (get_or values (place_in keys x) none) none ≡ not (stands x keys)
  none_exactly bad none x good never = go (stands x keys) refl
    where
      go : (t : Bool) → stands x keys ≡ t → eqb (get_or values (place_in keys x) none) none ≡ not t
      go true e =
          let within = place_within keys x e in
          never (get_or values (place_in keys x) none) (none_at bad values (place_in keys x) none good (omega arith))
      go false e =
          let past = place_past keys x e in
          eq-eqb (get_or values (place_in keys x) none) none (get_or-eq_default values none (omega arith))

  -- From a key to its value and back.
  pub key_back : (d e x : ℕ) → repeats values ≡ false → stands x keys ≡ true → get_or keys (place_in values (get_or values (place_in keys x) d)) e ≡ x
  key_back d e x once h =
      let within = place_within keys x h in
      ap (λ (i : ℕ). get_or keys i e) (place_back values (place_in keys x) d once (omega arith)) ∙ place_there keys x e h

-- ---- a good list

pub record Good (l : Aliases) : Type 0 where
  pub paired : length l.aliases ≡ length l.nodes
  pub few : length l.nodes ≤ most_pairs
  pub nodes_ok : any bad_node l.nodes ≡ false
  pub aliases_ok : any bad_alias l.aliases ≡ false
  pub aliases_once : repeats l.aliases ≡ false
  pub nodes_once_lem : repeats l.nodes ≡ false

pub good_list_lem : (l : Aliases) → bad_aliases l ≡ false → Good l
unfolding bad_aliases
good_list_lem l h =
    let a = neither (not (eqb (length l.aliases) (length l.nodes))) _ h in
    let b = neither (ltb most_pairs (length l.nodes)) _ a.1 in
    let c = neither (any bad_node l.nodes) _ b.1 in
    let d = neither (any bad_alias l.aliases) _ c.1 in
    let e = neither (repeats l.aliases) (repeats l.nodes) d.1 in
    record {
      paired = eqb-true (length l.aliases) (length l.nodes) (not-false _ a.0);
      few = ltb-false most_pairs (length l.nodes) b.0;
      nodes_ok = c.0;
      aliases_ok = d.0;
      aliases_once = e.0;
      nodes_once_lem = e.1;
    }

-- Refusal 16 is "not in the list": 0 is found for exactly the aliases that are not there, 1000 hex for exactly the Node IDs.
pub node_listed : (l : Aliases) (a : ℕ) → bad_aliases l ≡ false → eqb (node_for l a) nobody ≡ not (stands a l.aliases)
unfolding node_for
node_listed l a h =
    let g = good_list_lem l h in
    none_exactly l.aliases l.nodes g.paired bad_node nobody a g.nodes_ok (λ v k. (neither (eqb v 0) _ k).0)

pub alias_listed : (l : Aliases) (n : ℕ) → bad_aliases l ≡ false → eqb (alias_for l n) no_alias ≡ not (stands n l.nodes)
unfolding alias_for
alias_listed l n h =
    let g = good_list_lem l h in
    none_exactly l.nodes l.aliases (sym g.paired) bad_alias no_alias n g.aliases_ok
    (λ v k. let low = ltb-false highest_alias v k in ne_eqb v no_alias (λ e. omega arith))

-- A Node ID that has an alias is the one that its alias stands for, and an alias that stands for a Node ID is that one's.
pub known_back : (l : Aliases) (n : ℕ) → bad_aliases l ≡ false → eqb (alias_for l n) no_alias ≡ false → (node_for l (alias_for l n) ≡ n) × (alias_for l n ≤ highest_alias)
unfolding node_for alias_for
known_back l n h there =
    let g = good_list_lem l h in
    let in_list : stands n l.nodes ≡ true = not-false _ (sym (alias_listed l n h) ∙ there) in
    let within = place_within l.nodes n in_list in
    let paired = g.paired in (
      key_back l.nodes l.aliases (sym paired) no_alias nobody n g.aliases_once in_list,
      ltb-false highest_alias (alias_for l n) (none_at bad_alias l.aliases (place_in l.nodes n) no_alias g.aliases_ok (omega arith)),
    )

pub alias_back : (l : Aliases) (a : ℕ) → bad_aliases l ≡ false → eqb (node_for l a) nobody ≡ false → alias_for l (node_for l a) ≡ a
unfolding node_for alias_for
alias_back l a h there =
    let g = good_list_lem l h in
    key_back l.aliases l.nodes g.paired nobody no_alias a g.nodes_once_lem (not-false _ (sym (node_listed l a h) ∙ there))
