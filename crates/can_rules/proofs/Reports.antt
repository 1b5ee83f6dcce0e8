-- A message that splits: one of the two event reports, from a node that has an alias, with as much payload as its MTI takes.
use Prim.Native.Nat.{ℕ, ◌≤◌}
use mathlib.Core.Path.{◌≡◌, refl, sym, ap, subst, ◌∙◌}
use mathlib.Core.Logic.{◌⊎◌, inl, inr}
use mathlib.Core.Bool.{Bool, true, false, ◌||◌, true≢false, or-false}
use mathlib.Core.List.{List, [], ◌∷◌}
use native.Mathlib.Omega.{arith}
use borrow.Author.Tests.{eqb-true, ltb-false, le-ltb, not-false}
use lib.Dec.{eqb, ltb}
use lib.ListN.{length}
use Rattle.basics.specs.Refusals.{first_of}
use Rattle.basics.proofs.Bools.{neither}
use Rattle.basics.proofs.Firsts.{first_none, first_passed, rest_passed}
use Rattle.message.specs.declared.Kind.TheVariants.{EventReport}
use Rattle.std.specs.Prelude.{Option, Some, None as Missing}
use Rattle.message.specs.declared.Message.{Message}
use Rattle.message.specs.Mti.{addressed, carries_event, is_report, kind_of, meaning_of, mtis_of}
use Rattle.message.specs.Messages.{bad_node, bad_nodes, misplaced, bad_content, other_source}
use Rattle.message.proofs.KindsOfMti.{kind_exactly}
use Rattle.message.proofs.Writings.{content_placed}
use Rattle.can_rules.specs.Aliases.{Aliases, bad_aliases, place_in, nobody, no_alias, alias_for}
use Rattle.can_rules.specs.Joining.{Handed, report}
use Rattle.can_rules.specs.Splitting.{report_tests}
use Rattle.can_rules.proofs.Aliases.{stands, none_at, place_there, place_within, good_list_lem, alias_listed, known_back}
use Rattle.can_rules.proofs.Made.{Stands}

abbrev pub handing : Message → List ℕ → Handed
handing m payload = record { message = m; payload = payload }

-- Without payload it is a 05B4, with 1 to 256 bytes a 0F14.
pub data Reporting (n : ℕ) : Handed → Type 0 where
  bare : (event : ℕ) → Reporting n (report 0x05B4 n event [])
  laden : (event : ℕ) (payload : List ℕ) → 1 ≤ length payload → length payload ≤ 256 → Reporting n (report 0x0F14 n event payload)

-- ---- the fields

-- A field against no flag is absent, and one behind a flag has a number.
unflagged : (d : Option ℕ) → misplaced false d ≡ false → d ≡ Missing
unflagged Missing h = refl
unflagged (Some x) h = absurd (true≢false h)

pub record Numbered (v : Option ℕ) : Type 0 where
  pub number : ℕ
  pub there : v ≡ Some number

flagged : (v : Option ℕ) → misplaced true v ≡ false → Numbered v
flagged (Some x) h = record { number = x; there = refl }
flagged Missing h = absurd (true≢false h)

-- ---- the MTI

report_mti : (x : ℕ) → is_report (kind_of x) ≡ true → (x ≡ 0x05B4) ⊎ (x ≡ 0x0F14)
unfolding mtis_of
report_mti x is = go (eqb x 0x05B4) refl (sym (kind_exactly EventReport refl x) ∙ is)
  where
    go : (t : Bool) → eqb x 0x05B4 ≡ t → (t || (eqb x 0x0F14 || false)) ≡ true → (x ≡ 0x05B4) ⊎ (x ≡ 0x0F14)
    go true e h = inl (eqb-true x 0x05B4 e)
    go false e h = inr (eqb-true x 0x0F14 (sym (or-false (eqb x 0x0F14)) ∙ h))

-- ---- the message

module _ (m : Message) (payload : List ℕ) (good : bad_content m payload ≡ false) where
  size_fits : ((meaning_of m.mti).least ≤ length payload) × (length payload ≤ (meaning_of m.mti).most)
  unfolding bad_content
  size_fits =
      let size = (neither (misplaced (carries_event m.mti) m.event) _ (neither (misplaced (addressed m.mti) m.destination) _ good).1).1 in
      let sides = neither (ltb (length payload) (meaning_of m.mti).least) _ size in
      (ltb-false (length payload) _ sides.0, ltb-false _ (length payload) sides.1)

  -- What is true of every report with this MTI, from this node and with this payload, is true of the message.
  of_every_report : (x : ℕ) → m.mti ≡ x → addressed x ≡ false → carries_event x ≡ true → (P : Handed → Type 0) → ((event : ℕ) → P (report x m.source event payload))
      → P (handing m payload)
  of_every_report x e alone carries P every =
      let placed = content_placed m payload good in
      let none : m.destination ≡ Missing = unflagged m.destination (subst (λ (t : Bool). misplaced t m.destination ≡ false) (ap addressed e ∙ alone) placed.destination) in
      let some : Numbered m.event = flagged m.event (subst (λ (t : Bool). misplaced t m.event ≡ false) (ap carries_event e ∙ carries) placed.event) in
      let same : handing m payload ≡ report x m.source some.number payload
      = λ i. record { message = record { mti = e i; source = m.source; destination = none i; event = some.there i }; payload = payload } in
      subst P (sym same) (every some.number)

  reporting : (m.mti ≡ 0x05B4) ⊎ (m.mti ≡ 0x0F14) → Reporting m.source (handing m payload)
  unfolding meaning_of
  reporting (inl e) =
      let size = ap (λ (x : ℕ). (meaning_of x).most) e in
      let most = size_fits.1 in
      of_every_report 0x05B4 e refl refl (Reporting m.source) (λ v. no_bytes v payload (omega arith))
    where
      no_bytes : (v : ℕ) (bytes : List ℕ) → length bytes ≤ 0 → Reporting m.source (report 0x05B4 m.source v bytes)
      no_bytes v [] h = bare v
      no_bytes v (x ∷ bytes) h = absurd (omega arith)
  reporting (inr e) =
      let least = ap (λ (x : ℕ). (meaning_of x).least) e in
      let most = ap (λ (x : ℕ). (meaning_of x).most) e in
      let size = size_fits in
      of_every_report 0x0F14 e refl refl (Reporting m.source) (λ v. laden v payload (omega (arith, size.0)) (omega (arith, size.1)))

-- ---- what its tests say

pub record Splittable (l : Aliases) (m : Message) (payload : List ℕ) : Type 0 where
  pub stands : Stands l (alias_for l m.source) m.source
  pub one_of_two : Reporting m.source (handing m payload)

pub splittable : (l : Aliases) (m : Message) (payload : List ℕ) → first_of (report_tests l m payload) ≡ 0 → Splittable l m payload
unfolding bad_nodes
splittable l m payload e =
    let seven = (first_none (report_tests l m payload) refl).0 e in
    let three = rest_passed (rest_passed seven) in
    let four = rest_passed three in
    let twenty-nine = rest_passed (rest_passed four) in
    let back = known_back l m.source (first_passed seven) (first_passed (rest_passed twenty-nine)) in
    let node = (neither (bad_node m.source) _ (first_passed three)).0 in
    record {
      stands = record { good_list_lem = first_passed seven; fits = back.1; for = back.0; somebody = (neither (eqb m.source 0) _ node).0 };
      one_of_two = reporting m payload (first_passed four) (report_mti m.mti (not-false (is_report (kind_of m.mti)) (first_passed twenty-nine)));
    }

-- ---- and back: every such report from a listed node is split

-- A Node ID of a good list is a good Node ID.
pub listed_good : (l : Aliases) (n : ℕ) → bad_aliases l ≡ false → eqb (alias_for l n) no_alias ≡ false → bad_node n ≡ false
listed_good l n h there =
    let g = good_list_lem l h in
    let in_list : stands n l.nodes ≡ true = not-false _ (sym (alias_listed l n h) ∙ there) in
    subst (λ (x : ℕ). bad_node x ≡ false) (place_there l.nodes n nobody in_list)
    (none_at bad_node l.nodes (place_in l.nodes n) nobody g.nodes_ok (place_within l.nodes n in_list))

-- With `splittable` the two directions of one fact: the other tests pass exactly for an event report from a node of a good list.
pub reports_split : (l : Aliases) (n : ℕ) (h : Handed) → bad_aliases l ≡ false → eqb (alias_for l n) no_alias ≡ false → Reporting n h
    → first_of (report_tests l h.message h.payload) ≡ 0
unfolding bad_nodes bad_content other_source meaning_of
reports_split l n h good there (bare event) = rw (good, listed_good l n good there, there)
reports_split l n h good there (laden event payload some few) =
    rw (good, listed_good l n good there, le-ltb (length payload) 1 some, le-ltb 256 (length payload) few, there)
