-- Two marks at each place, one for aliases and one for Node IDs; what is left of a list once all from a place on are seen to be good.
use Prim.Native.Nat.{ℕ, zero, suc, ◌+◌, ◌-◌, ◌*◌, ◌/◌, ◌%◌, ◌≤◌, ◌<◌}
use mathlib.Core.Path.{◌≡◌, refl, sym, ap, ap₂, subst, subst₂, ◌∙◌}
use mathlib.Core.Bool.{Bool, true, false, ◌||◌, or-true}
use mathlib.Core.List.{List, [], ◌∷◌, map}
use native.Mathlib.Omega.{arith}
use borrow.Author.Tests.{eqb-true, eqb-false, eq-eqb, le-ltb}
use lib.Dec.{eqb}
use lib.ListN.{length, drop, get_or, set, replicate, length-map, get_or-map}
use lib.Seq.{drop-length, get_or-set_other}
use Rattle.basics.specs.Lists.{any}
use Rattle.message.specs.Messages.{bad_node}
use Rattle.can_rules.specs.Aliases.{highest_alias, bad_alias, repeats}
use Rattle.can_aliases.specs.Parts.{any_bad}
use Rattle.can_aliases.proofs.Repeats.{among, low, Met, met_none, new, met_more, before, met_twice}

-- ---- one of the two marks

map_set : (f : ℕ → ℕ) (l : List ℕ) (i v : ℕ) → map f (set l i v) ≡ set (map f l) i (f v)
map_set f [] i v = refl
map_set f (x ∷ xs) zero v = refl
map_set f (x ∷ xs) (suc i) v = ap (λ (r : List ℕ). f x ∷ r) (map_set f xs i v)

set_own : (l : List ℕ) (i : ℕ) → set l i (get_or l i 0) ≡ l
set_own [] i = refl
set_own (x ∷ xs) zero = refl
set_own (x ∷ xs) (suc i) = ap (λ (r : List ℕ). x ∷ r) (set_own xs i)

-- A mark that is read the same afterwards stays.
kept : (f : ℕ → ℕ) → f 0 ≡ 0 → (l : List ℕ) (i v : ℕ) → f v ≡ f (get_or l i 0) → map f (set l i v) ≡ map f l
kept f z l i v e = map_set f l i v ∙ ap (set (map f l) i) (e ∙ at) ∙ set_own (map f l) i
  where
    at : f (get_or l i 0) ≡ get_or (map f l) i 0
    at = sym (get_or-map f l i 0) ∙ ap (get_or (map f l) i) z

-- In an array that was cleared nothing is marked.
pub all_clear : (n k : ℕ) → ◌≡◌ {A = ℕ} (get_or (replicate n 0) k 0) 0
all_clear zero k = refl
all_clear (suc n) zero = refl
all_clear (suc n) (suc k) = all_clear n k

-- ---- the lists from a place on

pub record Good (aliases nodes marks : List ℕ) : Type 0 where
  pub aliases_met : Met aliases (map (λ v. v % 2) marks)
  pub nodes_met : Met nodes (map (λ v. v / 2 % 2) marks)
  pub good_nodes : any bad_node nodes ≡ false
  pub good_aliases : any bad_alias aliases ≡ false
  pub marks_met : (k : ℕ) → get_or marks k 0 % 2 ≡ 1 → among aliases k ≡ true

pub good_none : (aliases nodes marks : List ℕ) (i : ℕ) → length marks ≡ 0x1000 → ((k : ℕ) → get_or marks k 0 ≡ 0) → i ≡ length aliases → i ≡ length nodes → Good (drop i aliases) (drop i nodes) marks
good_none aliases nodes marks i e clear a n =
    let noAliases : drop i aliases ≡ [] = ap (λ (k : ℕ). drop k aliases) a ∙ drop-length aliases in
    let noNodes : drop i nodes ≡ [] = ap (λ (k : ℕ). drop k nodes) n ∙ drop-length nodes in
    subst₂ (λ (x y : List ℕ). Good x y marks) (sym noAliases) (sym noNodes) (record {
      aliases_met = met_none (map (λ v. v % 2) marks) (length-map marks (λ v. v % 2) ∙ e);
      nodes_met = met_none (map (λ v. v / 2 % 2) marks) (length-map marks (λ v. v / 2 % 2) ∙ e);
      good_nodes = refl;
      good_aliases = refl;
      marks_met = λ k h. absurd (let z = clear k in omega arith);
    })

module _ {aliases nodes marks : List ℕ} (g : Good aliases nodes marks) (alias node : ℕ) (few : alias ≤ highest_alias) (named : bad_node node ≡ false) where
  -- An alias that is new sets its mark; those of Node IDs stay.
  module _ (unset : get_or marks (low alias) 0 % 2 ≡ 1 → ⊥) where
    new_alias : among aliases alias ≡ false
    new_alias = new g.aliases_met alias (λ some. absurd (some (get_or-map (λ v. v % 2) marks (low alias) 0 ∙ omega (arith, unset))))

    abbrev once : List ℕ
    once = set marks (low alias) (get_or marks (low alias) 0 / 2 % 2 * 2 + 1)

    alias_met : Met (alias ∷ aliases) (map (λ v. v % 2) once)
    alias_met =
        subst (Met (alias ∷ aliases)) (sym (map_set (λ v. v % 2) marks (low alias) (get_or marks (low alias) 0 / 2 % 2 * 2 + 1)))
        (met_more g.aliases_met alias new_alias ((get_or marks (low alias) 0 / 2 % 2 * 2 + 1) % 2) (λ z. omega (arith, z)))

    nodes_stay : map (λ v. v / 2 % 2) once ≡ map (λ v. v / 2 % 2) marks
    nodes_stay = kept (λ v. v / 2 % 2) refl marks (low alias) (get_or marks (low alias) 0 / 2 % 2 * 2 + 1) (omega arith)

    -- A mark that is set is that of an alias that was met, or of this one.
    own_mark : (k : ℕ) → get_or once k 0 % 2 ≡ 1 → among (alias ∷ aliases) k ≡ true
    own_mark k h = go (eqb k (low alias)) refl
      where
        own : low alias ≡ alias
        own = omega arith

        go : (t : Bool) → eqb k (low alias) ≡ t → among (alias ∷ aliases) k ≡ true
        go true e = ap (λ (t : Bool). t || among aliases k) (eq-eqb alias k (sym own ∙ sym (eqb-true k (low alias) e)))
        go false e =
            let n = eqb-false k (low alias) e in
            ap (λ (t : Bool). eqb alias k || t) (g.marks_met k (ap (λ (v : ℕ). v % 2) (sym (get_or-set_other marks (low alias) k _ 0 n)) ∙ h)) ∙ or-true (eqb alias k)

    -- And so does a Node ID.
    module _ (asked : 2 ≤ get_or once (low node) 0 → among nodes node ≡ false) where
      nodes_once : Met nodes (map (λ v. v / 2 % 2) once)
      nodes_once = subst (Met nodes) (sym nodes_stay) g.nodes_met

      new_node : among nodes node ≡ false
      new_node = new nodes_once node (λ some. asked (let e = get_or-map (λ v. v / 2 % 2) once (low node) 0 in omega arith))

      abbrev twice : List ℕ
      twice = set once (low node) (get_or once (low node) 0 % 2 + 2)

      same_mark : (k : ℕ) → get_or twice k 0 % 2 ≡ get_or once k 0 % 2
      same_mark k =
          let f : ℕ → ℕ = λ v. v % 2 in
          sym (get_or-map f twice k 0) ∙ ap (λ (l : List ℕ). get_or l k 0) (kept f refl once (low node) (get_or once (low node) 0 % 2 + 2) (omega arith)) ∙ get_or-map f once k 0

      pub good_more : Good (alias ∷ aliases) (node ∷ nodes) twice
      good_more = record {
        aliases_met = subst (Met (alias ∷ aliases)) (sym (kept (λ v. v % 2) refl once (low node) (get_or once (low node) 0 % 2 + 2) (omega arith))) alias_met;
        nodes_met =
            subst (Met (node ∷ nodes)) (sym (map_set (λ v. v / 2 % 2) once (low node) (get_or once (low node) 0 % 2 + 2)))
            (met_more nodes_once node new_node ((get_or once (low node) 0 % 2 + 2) / 2 % 2) (λ z. omega (arith, z)));
        good_nodes = ap₂ (λ (s t : Bool). s || t) named g.good_nodes;
        good_aliases = ap₂ (λ (s t : Bool). s || t) (le-ltb highest_alias alias few) g.good_aliases;
        marks_met = λ k h. own_mark k (sym (same_mark k) ∙ h);
      }

-- ---- what is found

module _ (aliases nodes : List ℕ) where
  third_of : (a b c d : Bool) → c ≡ true → true ≡ (a || (b || (c || d)))
  third_of a b c d e = sym (ap (λ (t : Bool). a || (b || (t || d))) e ∙ ap (λ (t : Bool). a || t) (or-true b) ∙ or-true a)

  fourth_of : (a b c d : Bool) → d ≡ true → true ≡ (a || (b || (c || d)))
  fourth_of a b c d e = sym (ap (λ (t : Bool). a || (b || (c || t))) e ∙ ap (λ (t : Bool). a || (b || t)) (or-true c) ∙ ap (λ (t : Bool). a || t) (or-true b) ∙ or-true a)

  module _ (i : ℕ) (h : 0 < i) (a : i ≤ length aliases) (n : i ≤ length nodes) where
    pub alias_twice : (marks : List ℕ) → Good (drop i aliases) (drop i nodes) marks → get_or aliases (i - 1) 0 ≤ highest_alias → get_or marks (low (get_or aliases (i - 1) 0)) 0 % 2 ≡ 1
        → true ≡ any_bad aliases nodes
    alias_twice marks g few e =
        let alias = get_or aliases (i - 1) 0 in
        let own : low alias ≡ alias = omega arith in
        third_of (any bad_node nodes) (any bad_alias aliases) (repeats aliases) (repeats nodes)
        (met_twice aliases i h a (ap (among (drop i aliases)) (sym own) ∙ g.marks_met (low alias) e))

    pub node_twice : among (drop i nodes) (get_or nodes (i - 1) 0) ≡ true → true ≡ any_bad aliases nodes
    node_twice e = fourth_of (any bad_node nodes) (any bad_alias aliases) (repeats aliases) (repeats nodes) (met_twice nodes i h n e)

    pub good_before : (marks : List ℕ) → Good (get_or aliases (i - 1) 0 ∷ drop i aliases) (get_or nodes (i - 1) 0 ∷ drop i nodes) marks → Good (drop (i - 1) aliases) (drop (i - 1) nodes) marks
    good_before marks g = subst₂ (λ (x y : List ℕ). Good x y marks) (before aliases i h a) (before nodes i h n) g
