-- Each refusal of joining and of splitting is given exactly when document 02 says, in its order; what a refusal hands out, keeps and drops.
use Prim.Native.Nat.{ℕ, zero, suc, ◌+◌}
use mathlib.Core.Path.{◌≡◌, refl, sym, ap, ◌∙◌}
use mathlib.Core.Logic.{◌↔◌}
use mathlib.Core.Bool.{Bool, true, false, cond, ◌&&◌, ◌||◌, or-false, or-true}
use mathlib.Core.List.{List, [], ◌∷◌, map}
use native.Mathlib.Omega.{arith}
use borrow.Author.Tests.{eq-eqb, ne_eqb}
use lib.Dec.{eqb, ltb}
use lib.ListN.{length}
use Rattle.basics.specs.Lists.{any}
use Rattle.basics.specs.Refusals.{Test, first_of, Told, told, refused, None, Given}
use Rattle.basics.proofs.Bools.{both}
use Rattle.basics.proofs.Firsts.{first_none, first_given, told_number_lem, answered_yes, answered_no}
use Rattle.basics.proofs.Lists.{none_stays}
use Rattle.message.specs.declared.Message.{Message}
use Rattle.message.specs.Writing.{overwritten}
use Rattle.can_rules.specs.declared.Frame.{Frame}
use Rattle.can_rules.specs.declared.Part.{Part}
use Rattle.can_rules.specs.declared.Part.TheVariants.{Whole, Start, Middle, Last, OtherHeader}
use Rattle.can_rules.specs.Frames.{part_of, bytes_in, all_bytes}
use Rattle.can_rules.specs.Aliases.{Aliases}
use Rattle.can_rules.specs.Joining.{Begun, most_payload, of_sender, has_begun, dropped, continues, overflows, sender_of, join_tests, Outcome, joined, refusing, settled, join}
use Rattle.can_rules.specs.Splitting.{split_of, split_tests, split_told, out_after_split}
use Rattle.can_rules.proofs.Lists.{any_first}

-- ---- the order

pub join_order : (l : Aliases) (s : List Begun) (f : Frame) → map (λ t. t.number) (join_tests l s f) ≡ 7 ∷ 29 ∷ 16 ∷ 19 ∷ 17 ∷ 20 ∷ 18 ∷ []
join_order l s f = refl

pub split_order : (l : Aliases) (m : Message) (payload out : List ℕ) → map (λ t. t.number) (split_tests l m payload out) ≡ 7 ∷ 2 ∷ 3 ∷ 4 ∷ 5 ∷ 29 ∷ 16 ∷ 6 ∷ []
split_order l m payload out = refl

-- ---- joining

-- The number that is answered is the first test's that applies.
settled_number : (s : List Begun) (n : ℕ) (bytes : List ℕ) (k : ℕ) (part : Part) → (settled s n bytes k part).refusal ≡ k
settled_number s n bytes zero Whole = refl
settled_number s n bytes zero Start = refl
settled_number s n bytes zero Middle = refl
settled_number s n bytes zero Last = refl
settled_number s n bytes zero OtherHeader = refl
settled_number s n bytes (suc k) part = refl

pub join_number : (l : Aliases) (s : List Begun) (f : Frame) → (join l s f).refusal ≡ first_of (join_tests l s f)
unfolding join
join_number l s f = settled_number s (sender_of l f) (bytes_in f) (first_of (join_tests l s f)) (part_of f)

pub join_refused : (l : Aliases) (s : List Begun) (f : Frame) (n : ℕ) → (n ≡ 0 → ⊥) → ((join l s f).refusal ≡ n) ↔ Given n (join_tests l s f)
join_refused l s f n p = (
  λ e. (first_given (join_tests l s f) n p).0 (sym (join_number l s f) ∙ e),
  λ g. join_number l s f ∙ (first_given (join_tests l s f) n p).1 g,
)

pub join_accepted : (l : Aliases) (s : List Begun) (f : Frame) → ((join l s f).refusal ≡ 0) ↔ None (join_tests l s f)
join_accepted l s f = (
  λ e. (first_none (join_tests l s f) refl).0 (sym (join_number l s f) ∙ e),
  λ g. join_number l s f ∙ (first_none (join_tests l s f) refl).1 g,
)

-- ---- what a refusal of joining leaves

-- An accepted frame is joined, and a refused one is answered by its number alone.
pub join_joined : (l : Aliases) (s : List Begun) (f : Frame) → (join l s f).refusal ≡ 0 → join l s f ≡ joined s (sender_of l f) (bytes_in f) (part_of f)
unfolding join
join_joined l s f e = answered_yes (joined s (sender_of l f) (bytes_in f)) (refusing s (sender_of l f)) (part_of f) (sym (join_number l s f) ∙ e)

pub join_refusing : (l : Aliases) (s : List Begun) (f : Frame) → ((join l s f).refusal ≡ 0 → ⊥) → join l s f ≡ refusing s (sender_of l f) (join l s f).refusal
unfolding join
join_refusing l s f some =
    answered_no (joined s (sender_of l f) (bytes_in f)) (refusing s (sender_of l f)) (first_of (join_tests l s f)) (part_of f) (λ e. some (join_number l s f ∙ e))
    ∙ ap (refusing s (sender_of l f)) (sym (join_number l s f))

pub refused_silent : (l : Aliases) (s : List Begun) (f : Frame) → ((join l s f).refusal ≡ 0 → ⊥) → (join l s f).handed ≡ []
refused_silent l s f some = ap (λ (o : Outcome). o.handed) (join_refusing l s f some)

pub refusal_keeps : (l : Aliases) (s : List Begun) (f : Frame) → ((join l s f).refusal ≡ 0 → ⊥) → ((join l s f).refusal ≡ 18 → ⊥) → (join l s f).next ≡ s
refusal_keeps l s f some other =
    ap (λ (o : Outcome). o.next) (join_refusing l s f some) ∙ ap (λ (t : Bool). cond t (dropped (sender_of l f) s) s) (ne_eqb (join l s f).refusal 18 other)

pub refusal_drops : (l : Aliases) (s : List Begun) (f : Frame) → (join l s f).refusal ≡ 18 → (join l s f).next ≡ dropped (sender_of l f) s
refusal_drops l s f e =
    ap (λ (o : Outcome). o.next) (join_refusing l s f (λ z. omega arith)) ∙ ap (λ (k : ℕ). (refusing s (sender_of l f) k).next) e

-- ---- a number that is given is one whose test applies

-- A test with this number applies.
abbrev pub applying : ℕ → List Test → Bool
applying n ts = any (λ t. eqb t.number n && t.applies) ts

pub given_applies : (ts : List Test) (n : ℕ) → (n ≡ 0 → ⊥) → first_of ts ≡ n → applying n ts ≡ true
given_applies [] n some e = absurd (some (sym e))
given_applies (t ∷ ts) n some e = go t.applies e (given_applies ts n some)
  where
    go : (a : Bool) → cond a t.number (first_of ts) ≡ n → (first_of ts ≡ n → applying n ts ≡ true) → ((eqb t.number n && a) || applying n ts) ≡ true
    go true e later = rw (eq-eqb t.number n e)
    go false e later = rw (later e) (or-true (eqb t.number n && false))

pub join_applies : (l : Aliases) (s : List Begun) (f : Frame) (n : ℕ) → (n ≡ 0 → ⊥) → (join l s f).refusal ≡ n → applying n (join_tests l s f) ≡ true
join_applies l s f n some e = given_applies (join_tests l s f) n some (sym (join_number l s f) ∙ e)

-- Where 18 is given the sender had begun a message, and afterwards it has not: 18 does change the joining state.
pub eighteen_changes : (l : Aliases) (s : List Begun) (f : Frame) → (join l s f).refusal ≡ 18
    → (has_begun (sender_of l f) s ≡ true) × (has_begun (sender_of l f) (join l s f).next ≡ false)
eighteen_changes l s f e =
    let n = sender_of l f in
    let over = any (overflows n (bytes_in f)) s in
    let here : (continues (part_of f) && over) ≡ true = sym (or-false (continues (part_of f) && over)) ∙ join_applies l s f 18 (λ z. omega arith) e in (
      any_first (of_sender n) (λ b. ltb most_payload (length b.so_far + length (bytes_in f))) s (both (continues (part_of f)) over here).1,
      ap (has_begun n) (refusal_drops l s f e) ∙ none_stays (of_sender n) s,
    )

-- ---- splitting

module _ (l : Aliases) (m : Message) (payload out : List ℕ) where
  split_number : (split_told l m payload out).refusal ≡ first_of (split_tests l m payload out)
  unfolding split_told
  split_number = told_number_lem (split_tests l m payload out) (length (all_bytes (split_of l m payload)))

  pub split_refused : (n : ℕ) → (n ≡ 0 → ⊥) → ((split_told l m payload out).refusal ≡ n) ↔ Given n (split_tests l m payload out)
  split_refused n p = (
    λ e. (first_given (split_tests l m payload out) n p).0 (sym split_number ∙ e),
    λ g. split_number ∙ (first_given (split_tests l m payload out) n p).1 g,
  )

  pub split_accepted : ((split_told l m payload out).refusal ≡ 0) ↔ None (split_tests l m payload out)
  split_accepted = (
    λ e. (first_none (split_tests l m payload out) refl).0 (sym split_number ∙ e),
    λ g. split_number ∙ (first_none (split_tests l m payload out) refl).1 g,
  )

  -- A refusal leaves the output as it was and tells nothing beside its number.
  pub split_keeps : ((split_told l m payload out).refusal ≡ 0 → ⊥) → (out_after_split l m payload out ≡ out) × ((split_told l m payload out).value ≡ [])
  unfolding split_told out_after_split
  split_keeps some =
      let first = first_of (split_tests l m payload out) in
      let frames = all_bytes (split_of l m payload) in
      let other : first ≡ 0 → ⊥ = λ e. some (split_number ∙ e) in (
        answered_no (overwritten out) (λ _. out) first frames other,
        ap (λ (t : Told (List ℕ)). t.value) (answered_no (λ (y : ℕ). told (y ∷ [])) (λ n. refused n []) first (length frames) other),
      )

  -- Of an accepted split the frames stand at the start of the output, and their number of bytes is told.
  pub split_leaves : (split_told l m payload out).refusal ≡ 0
      → (out_after_split l m payload out ≡ overwritten out (all_bytes (split_of l m payload))) × ((split_told l m payload out).value ≡ length (all_bytes (split_of l m payload)) ∷ [])
  unfolding split_told out_after_split
  split_leaves e =
      let frames = all_bytes (split_of l m payload) in
      let none = sym split_number ∙ e in (
        answered_yes (overwritten out) (λ _. out) frames none,
        ap (λ (t : Told (List ℕ)). t.value) (answered_yes (λ (y : ℕ). told (y ∷ [])) (λ n. refused n []) (length frames) none),
      )
