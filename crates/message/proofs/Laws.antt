-- What proofs cite of the message table and of the tests of a message.
use Prim.Native.Nat.{ℕ}
use mathlib.Core.Path.{◌≡◌, refl, sym, ap, ◌∙◌}
use mathlib.Core.Bool.{Bool, true, false, cond, not, ◌&&◌, ◌||◌, and-false, or-true, true≢false}
use mathlib.Core.List.{List, [], ◌∷◌}
use native.Mathlib.Omega.{arith}
use borrow.Author.Tests.{eqb-true, eq-eqb, le-ltb}
use lib.Dec.{eqb, ltb}
use lib.ListN.{length}
use Rattle.numbers.specs.Numbers.{number_in}
use Rattle.basics.proofs.Bools.{both}
use Rattle.message.specs.declared.Meaning.{Meaning}
use Rattle.message.specs.declared.Message.{Message}
use Rattle.message.specs.Mti.{is_restart, Row, addressed, carries_event, table, other, lookup, meaning_of, kind_of}
use Rattle.message.specs.Messages.{bad_node, bad_where_present, bad_nodes, misplaced, bad_content, other_source, content_tests, rest_tests}
use Rattle.basics.specs.Refusals.{first_of}

-- ---- the table

-- A rule of every row and of "other" is a rule of every MTI.
abbrev of_all : (Meaning → Bool) → List Row → Bool
of_all rule [] = rule other
of_all rule (r ∷ rs) = rule r.means && of_all rule rs

of_either : (rule : Meaning → Bool) (t : Bool) (x y : Meaning) → rule x ≡ true → rule y ≡ true → rule (cond t x y) ≡ true
of_either rule true x y h k = h
of_either rule false x y h k = k

of_lookup : (rule : Meaning → Bool) (rs : List Row) (m : ℕ) → of_all rule rs ≡ true → rule (lookup rs m) ≡ true
of_lookup rule [] m h = h
of_lookup rule (r ∷ rs) m h =
    let parts = both (rule r.means) (of_all rule rs) h in
    of_either rule (eqb m r.mti) r.means (lookup rs m) parts.0 (of_lookup rule rs m parts.1)

-- Initialization Complete has 6 content bytes.
pub restart_six : (m : ℕ) → is_restart (kind_of m) ≡ true → (meaning_of m).most ≡ 6
unfolding meaning_of
restart_six m h =
    let r = of_lookup (λ (x : Meaning). not (is_restart x.kind) || eqb x.most 6) table m refl in
    eqb-true (lookup table m).most 6 (rw h at r)

pub restart_least : (m : ℕ) → is_restart (kind_of m) ≡ true → (meaning_of m).least ≡ 6
unfolding meaning_of
restart_least m h =
    let r = of_lookup (λ (x : Meaning). not (is_restart x.kind) || eqb x.least 6) table m refl in
    eqb-true (lookup table m).least 6 (rw h at r)

-- ---- the tests

pub nodes_source : (m : Message) → bad_node m.source ≡ true → bad_nodes m ≡ true
unfolding bad_nodes
nodes_source m h = rw h

pub nodes_destination : (m : Message) → bad_where_present m.destination ≡ true → bad_nodes m ≡ true
unfolding bad_nodes
nodes_destination m h = rw h (or-true (bad_node m.source))

pub nodes_good : (m : Message) → bad_node m.source ≡ false → bad_where_present m.destination ≡ false → bad_nodes m ≡ false
unfolding bad_nodes
nodes_good m h k = rw (h, k)

-- Whether each field is where its flag says.
pub record Placed (m : Message) : Type 0 where
  pub destination : misplaced (addressed m.mti) m.destination ≡ false
  pub event : misplaced (carries_event m.mti) m.event ≡ false

pub content_destination : (m : Message) (s : List ℕ) → misplaced (addressed m.mti) m.destination ≡ true → bad_content m s ≡ true
unfolding bad_content
content_destination m s h = rw h

pub content_event : (m : Message) (s : List ℕ) → misplaced (carries_event m.mti) m.event ≡ true → bad_content m s ≡ true
unfolding bad_content
content_event m s h = rw h (or-true (misplaced (addressed m.mti) m.destination))

pub content_good : (m : Message) (s : List ℕ) → Placed m → ltb (length s) (meaning_of m.mti).least ≡ false
    → ltb (meaning_of m.mti).most (length s) ≡ false → bad_content m s ≡ false
unfolding bad_content
content_good m s p h k = rw (p.destination, p.event, h, k)

pub source_any : (m : Message) (s : List ℕ) → is_restart (kind_of m.mti) ≡ false → other_source m s ≡ false
unfolding other_source
source_any m s h = rw h

pub source_same : (m : Message) (s : List ℕ) → number_in s ≡ m.source → other_source m s ≡ false
unfolding other_source
source_same m s h = rw (eq-eqb (number_in s) m.source h) (and-false (is_restart (kind_of m.mti)))

pub content_rest : (m : Message) (s : List ℕ) → bad_nodes m ≡ false → Placed m → first_of (rest_tests m.mti m.source s) ≡ first_of (content_tests m s)
unfolding bad_content other_source
content_rest m s n p = rw (n, p.destination, p.event)

-- Of no content only the table's least is asked: an Initialization Complete has some.
pub content_none : (m source : ℕ) (s : List ℕ) → length s ≡ 0 → cond (ltb 0 (meaning_of m).least) 4 0 ≡ first_of (rest_tests m source s)
content_none m source s e =
    let short : ltb (length s) (meaning_of m).least ≡ ltb 0 (meaning_of m).least = ap (λ (n : ℕ). ltb n (meaning_of m).least) e in
    let long : ltb (meaning_of m).most (length s) ≡ false = le-ltb (meaning_of m).most (length s) (omega arith) in
    rw (short, long) (go (ltb 0 (meaning_of m).least) (is_restart (kind_of m)) refl refl)
  where
    go : (t r : Bool) → ltb 0 (meaning_of m).least ≡ t → is_restart (kind_of m) ≡ r
        → ◌≡◌ {A = ℕ} (cond t 4 0) (cond (t || false) 4 (cond (r && not (eqb (number_in s) source)) 5 0))
    go true r a b = refl
    go false false a b = refl
    go false true a b = absurd (true≢false (sym (ap (ltb 0) (restart_least m b)) ∙ a))
