-- N3: an inquiry gets one reply for each different role and Event ID that it asks for, and 1,024 bytes are enough for all.
use Prim.Native.Nat.{ℕ, zero, suc, ◌+◌, ◌*◌, ◌≤◌}
use mathlib.Core.Path.{◌≡◌, refl, ap, ap₂, ◌∙◌}
use mathlib.Core.Bool.{Bool, true, false, cond, not, ◌&&◌, ◌||◌}
use mathlib.Core.List.{List, [], ◌∷◌, ◌++◌}
use native.Mathlib.Omega.{arith}
use borrow.Author.Tests.{eqb-true}
use lib.Dec.{eqb}
use lib.ListN.{length, get_or, length-append}
use Rattle.basics.proofs.Bools.{both}
use Rattle.basics.specs.Sets.{any_below}
use Rattle.message.specs.declared.Message.{Message}
use Rattle.message.specs.Mti.{same_kind, kind_of}
use Rattle.std.specs.Prelude.{Option}
use Rattle.message.specs.declared.Saying.{Saying}
use Rattle.message.specs.declared.Saying.TheVariants.{Inquiry, InquiryForAll}
use Rattle.node_rules.specs.Boards.{Board, count, role_of, event_of, status_of, has_at, out_of_bounds}
use Rattle.node_rules.specs.Sending.{identified_mti, identified, whole_bytes, all_bytes, identifying}
use Rattle.node_rules.specs.Hearing.{heard_by, chosen, lowest_at, answers_at, answering}
use Rattle.node_rules.specs.Calls.{size, replies, taking}
use Rattle.node_rules.specs.Replies.{how_many, identified_kind, names, some_slot, outside}
use Rattle.node_rules.proofs.Bounds.{in_bounds, role_small}
use Rattle.node_rules.proofs.Pieces.{plain_length, plain_whole, identified_plain, producer_kind, consumer_kind}

-- ---- how many

how_many_append : {A : Type 0} (test : A → Bool) (xs ys : List A) → how_many test (xs ++ ys) ≡ how_many test xs + how_many test ys
how_many_append test [] ys = omega arith
how_many_append test (x ∷ xs) ys = omega (arith, how_many_append test xs ys)

-- The lowest slot of each role and Event ID that is asked for: each is there once, or not at all.
module _ (roles events : List ℕ) (asked : ℕ → ℕ → Bool) (role e : ℕ) where
  abbrev test : ℕ → Bool
  test i = asked (get_or roles i 0) (get_or events i 0) && lowest_at roles events i

  abbrev here : ℕ → Bool
  here = has_at roles events role e

  one_more : (n : ℕ) → cond (any_below n here && asked role e) 1 0 + how_many here (cond (test n) (n ∷ []) []) ≡ cond ((here n || any_below n here) && asked role e) 1 0
  one_more n = go (here n) refl
    where
      -- A slot of another role or event counts for nothing.
      other : (t : Bool) → here n ≡ false → how_many here (cond t (n ∷ []) []) ≡ 0
      other true h = rw h
      other false h = refl

      -- The slot is of this role and event: it is asked for as they are, and counts where no lower one does.
      same : (a l : Bool) → here n ≡ true → cond (l && a) 1 0 + how_many here (cond (a && not l) (n ∷ []) []) ≡ cond a 1 0
      same true true h = refl
      same true false h = rw h
      same false true h = refl
      same false false h = refl

      go : (t : Bool) → here n ≡ t → cond (any_below n here && asked role e) 1 0 + how_many here (cond (test n) (n ∷ []) []) ≡ cond ((t || any_below n here) && asked role e) 1 0
      go true h =
          let p = both (eqb (get_or roles n 0) role) (eqb (get_or events n 0) e) h in
          let r = eqb-true (get_or roles n 0) role p.0 in
          let v = eqb-true (get_or events n 0) e p.1 in
          ap₂ (λ (x y : ℕ). cond (any_below n here && asked role e) 1 0 + how_many here (cond (asked x y && not (any_below n (has_at roles events x y))) (n ∷ []) [])) r v
          ∙ same (asked role e) (any_below n here) h
      go false h = ap (λ (k : ℕ). cond (any_below n here && asked role e) 1 0 + k) (other (test n) h) ∙ omega arith

  chosen_once : (n : ℕ) → how_many here (chosen n test) ≡ cond (any_below n here && asked role e) 1 0
  unfolding chosen
  chosen_once zero = refl
  chosen_once (suc n) =
      how_many_append here (chosen n test) (cond (test n) (n ∷ []) [])
      ∙ ap (λ (k : ℕ). k + how_many here (cond (test n) (n ∷ []) [])) (chosen_once n)
      ∙ one_more n

-- ---- what the replies name

-- An Identified message names the role and event of its slot.
kind_named : (role r status : ℕ) → role ≤ 1 → r ≤ 1 → same_kind (identified_kind role) (kind_of (identified_mti r status)) ≡ eqb r role
kind_named zero r status h g = producer_kind r status
kind_named (suc zero) zero status h g = consumer_kind zero status
kind_named (suc zero) (suc zero) status h g = consumer_kind (suc zero) status
kind_named (suc zero) (suc (suc r)) status h g = absurd (omega (arith, g))
kind_named (suc (suc role)) r status h g = absurd (omega (arith, h))

module _ (b : Board) (bounded : out_of_bounds b ≡ false) (role e : ℕ) (small : role ≤ 1) where
  abbrev slot_has : ℕ → Bool
  slot_has = has_at b.slots.roles b.slots.events role e

  named : (i : ℕ) → names role e (identified b i) ≡ slot_has i
  named i =
      ap (λ (t : Bool). t && eqb (event_of b.slots i) e)
      (kind_named role (role_of b.slots i) (status_of b.slots i) small (role_small b bounded i))

  names_all : (is : List ℕ) → how_many (names role e) (identifying b is) ≡ how_many slot_has is
  names_all [] = refl
  names_all (i ∷ is) = ap₂ (λ (t : Bool) (n : ℕ). cond t 1 0 + n) (named i) (names_all is)

  -- The replies to what is heard, by what it asks for.
  heard_once : (asked : ℕ → ℕ → Bool) (m : Message) (s : Saying) → heard_by b.node m ≡ s
      → answering b s
      ≡ chosen (count b.slots) (λ i. asked (role_of b.slots i) (event_of b.slots i) && lowest_at b.slots.roles b.slots.events i)
      → how_many (names role e) (taking b (heard_by b.node m)).sent ≡ cond (some_slot b role e && asked role e) 1 0
  heard_once asked m s h a =
      names_all (answering b (heard_by b.node m))
      ∙ ap (how_many slot_has) (ap (answering b) h ∙ a)
      ∙ chosen_once b.slots.roles b.slots.events asked role e (count b.slots)

  -- Identify Events: one reply for each different role and Event ID outside the automatic block, and no other.
  pub each_once : (m : Message) (destination : Option ℕ) → heard_by b.node m ≡ InquiryForAll destination
      → how_many (names role e) (taking b (heard_by b.node m)).sent ≡ cond (some_slot b role e && outside b e) 1 0
  unfolding answering
  each_once m destination h = heard_once (λ _ v. outside b v) m (InquiryForAll destination) h refl

  -- Identify Producer or Consumer: one reply for its role and event where a slot has them, and no other.
  pub event_once : (m : Message) (role' e' : ℕ) → heard_by b.node m ≡ Inquiry role' e'
      → how_many (names role e) (taking b (heard_by b.node m)).sent ≡ cond (some_slot b role e && (eqb role role' && eqb e e')) 1 0
  unfolding answering
  event_once m role' e' h = heard_once (λ r v. eqb r role' && eqb v e') m (Inquiry role' e') h refl

-- ---- 1,024 bytes are enough

pub chosen_few : (n : ℕ) (test : ℕ → Bool) → length (chosen n test) ≤ n
unfolding chosen
chosen_few zero test = omega arith
chosen_few (suc n) test = go (test n) (chosen_few n test)
  where
    go : (t : Bool) → length (chosen n test) ≤ n → length (chosen n test ++ cond t (n ∷ []) []) ≤ suc n
    go true h = omega (arith, h, length-append (chosen n test) (n ∷ []))
    go false h = omega (arith, h, length-append (chosen n test) [])

pub identified_length : (b : Board) (i : ℕ) → length (whole_bytes (identified b i)) ≡ 16
identified_length b i =
    let p = identified_plain (role_of b.slots i) (status_of b.slots i) in
    ap length (plain_whole p b.node.id (event_of b.slots i)) ∙ plain_length p b.node.id (event_of b.slots i)

pub identifying_size : (b : Board) (is : List ℕ) → size (identifying b is) ≡ length is * 16
identifying_size b [] = refl
identifying_size b (i ∷ is) =
    omega (arith, identified_length b i, identifying_size b is, length-append (whole_bytes (identified b i)) (all_bytes (identifying b is)))

pub replies_fit : (b : Board) → out_of_bounds b ≡ false → (s : Saying) → size (replies b s) ≤ 1024
unfolding answering
replies_fit b h s =
    omega (
      arith,
      identifying_size b (answering b s),
      chosen_few (count b.slots) (answers_at b.node.automatic b.slots.roles b.slots.events s),
      (in_bounds b h).few,
    )
