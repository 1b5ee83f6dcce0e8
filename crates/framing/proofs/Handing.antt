-- What a join hands out can be written: a report of a listed node, with 1 to 256 bytes of payload where it has any.
use Prim.Native.Nat.{ℕ, zero, suc, ◌+◌, ◌≤◌}
use mathlib.Core.Path.{◌≡◌, refl, sym, subst, ap, ◌∙◌}
use mathlib.Core.Bool.{Bool, true, false, cond, not, ◌&&◌, true≢false}
use mathlib.Core.List.{List, [], ◌∷◌, ◌++◌, map}
use native.Mathlib.Omega.{arith}
use borrow.Author.Tests.{eqb-true, eqb-false, ltb-false, le-ltb}
use lib.Dec.{eqb, ltb}
use lib.ListN.{length, get_or, length-append, length-take}
use Rattle.numbers.specs.Numbers.{number_in}
use Rattle.basics.specs.Lists.{any}
use Rattle.basics.specs.Refusals.{None}
use Rattle.basics.proofs.Bools.{neither}
use Rattle.basics.proofs.Firsts.{first_passed, rest_passed}
use Rattle.message.specs.Mti.{meaning_of}
use Rattle.message.specs.Messages.{bad_node, bad_nodes, bad_content, other_source}
use Rattle.can_rules.specs.declared.Frame.{Frame}
use Rattle.can_rules.specs.declared.Part.{Part}
use Rattle.can_rules.specs.declared.Part.TheVariants.{Whole, Start, Middle, Last, OtherHeader}
use Rattle.can_rules.specs.Frames.{part_of, alias_in, bytes_in}
use Rattle.can_rules.specs.Aliases.{Aliases, bad_aliases, place_in, node_for}
use Rattle.can_rules.specs.Joining.{Begun, bad_joining, of_sender, by, overflows, most_payload, sender_tests, sender_of, Handed, finished, Outcome, joined, join}
use Rattle.can_rules.proofs.Aliases.{good_list_lem}
use Rattle.can_rules.proofs.Exactly.{join_accepted, join_joined, refused_silent}
use Rattle.can_rules.proofs.Reports.{Reporting}
use Rattle.can_rules.proofs.Reports.Reporting.{bare, laden}
use Rattle.framing.specs.Steps.{Writable}

-- A report from a good node.
pub reporting_writable : {n : ℕ} {h : Handed} → bad_node n ≡ false → Reporting n h → Writable h
unfolding bad_nodes bad_content other_source meaning_of
reporting_writable e (bare event) = record { free = refl; good = rw e; few = omega arith }
reporting_writable e (laden event payload some most) =
    record { free = refl; good = rw (e, le-ltb (length payload) 1 some, le-ltb 256 (length payload) most); few = most }

-- ---- a listed node is good

listed_good : (ns : List ℕ) (i : ℕ) → any bad_node ns ≡ false → eqb (get_or ns i 0) 0 ≡ false → bad_node (get_or ns i 0) ≡ false
listed_good [] i h e = absurd (true≢false e)
listed_good (n ∷ ns) zero h e = (neither (bad_node n) (any bad_node ns) h).0
listed_good (n ∷ ns) (suc i) h e = listed_good ns i (neither (bad_node n) (any bad_node ns) h).1 e

sender_good : (l : Aliases) (f : Frame) → bad_aliases l ≡ false → eqb (sender_of l f) 0 ≡ false → bad_node (sender_of l f) ≡ false
unfolding sender_of node_for
sender_good l f h e = listed_good l.nodes (place_in l.aliases (alias_in f.header)) (good_list_lem l h).nodes_ok e

-- ---- what is handed out

-- Nothing, or first a report from a good node.
pub data Hands : List Handed → Type 0 where
  nothing : Hands []
  first : {n : ℕ} {h : Handed} {rest : List Handed} → bad_node n ≡ false → Reporting n h → Hands (h ∷ rest)

module _ (n : ℕ) (bytes : List ℕ) (good : bad_node n ≡ false) (some : 1 ≤ length bytes) where
  finished_hands : (s : List Begun) → any (overflows n bytes) s ≡ false → Hands (map (finished bytes) (by n s))
  finished_hands [] h = nothing
  finished_hands (b ∷ s) h =
      let parts = neither (overflows n bytes b) (any (overflows n bytes) s) h in
      go (of_sender n b) refl parts.0 (finished_hands s parts.1)
    where
      go : (t : Bool) → of_sender n b ≡ t → (t && ltb most_payload (length b.so_far + length bytes)) ≡ false → Hands (map (finished bytes) (by n s))
          → Hands (map (finished bytes) (cond (not t) (by n s) (b ∷ by n s)))
      go true e fits rest =
          let same : b.sender ≡ n = eqb-true b.sender n e in
          let size = length-append b.so_far bytes in
          let within = ltb-false most_payload (length b.so_far + length bytes) fits in
          first (ap bad_node same ∙ good) (laden b.event (b.so_far ++ bytes) (omega (arith, size, some)) (omega (arith, size, within)))
      go false e fits rest = rest

module _ (l : Aliases) (s : List Begun) (f : Frame) (eight : length f.bytes ≡ 8) where
  part_hands : (part : Part) → bad_aliases l ≡ false → None (sender_tests s (sender_of l f) part f.length (bytes_in f)) → Hands (joined s (sender_of l f) (bytes_in f) part).handed
  part_hands Whole g h = first (sender_good l f g (first_passed h)) (bare (number_in (bytes_in f)))
  part_hands Start g h = nothing
  part_hands Middle g h = nothing
  part_hands Last g h =
      let sized = neither (eqb f.length 0) (ltb 8 f.length) (first_passed (rest_passed h)) in
      let none = eqb-false f.length 0 sized.0 in
      let some : 1 ≤ length (bytes_in f) = omega (arith, length-take f.length f.bytes, ltb-false 8 f.length sized.1, none) in
      finished_hands (sender_of l f) (bytes_in f) (sender_good l f g (first_passed h)) some s (first_passed (rest_passed (rest_passed (rest_passed (rest_passed h)))))
  part_hands OtherHeader g h = nothing

  pub join_hands : Hands (join l s f).handed
  join_hands = go (eqb (join l s f).refusal 0) refl
    where
      go : (t : Bool) → eqb (join l s f).refusal 0 ≡ t → Hands (join l s f).handed
      go true e =
          let accepted = eqb-true (join l s f).refusal 0 e in
          let none = (join_accepted l s f).0 accepted in
          let good = (neither (bad_aliases l) (bad_joining s) (first_passed none)).0 in
          subst (λ (o : Outcome). Hands o.handed) (sym (join_joined l s f accepted)) (part_hands (part_of f) good (rest_passed (rest_passed none)))
      go false e = subst Hands (sym (refused_silent l s f (eqb-false (join l s f).refusal 0 e))) nothing
