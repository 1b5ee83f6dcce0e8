-- G2: places past the count change nothing.
use Prim.Native.Nat.{ℕ}
use mathlib.Core.Path.{◌≡◌, ap, ◌∙◌}
use mathlib.Core.Bool.{cond, ◌||◌}
use mathlib.Core.List.{List, []}
use lib.ListN.{length}
use Rattle.basics.specs.Refusals.{refused}
use Rattle.basics.specs.Sets.{in_set}
use Rattle.basics.proofs.Each.{each_same}
use Rattle.gateway_rules.specs.Step.{refusing}
use Rattle.gateway_rules.specs.Reasons.{why_told}
use Rattle.index_rules.specs.Boxes.{Box, box_step, strays}
use Rattle.gateway.specs.declared.state.Head.{Head}
use Rattle.gateway.specs.declared.state.Gateway.{Gateway}
use Rattle.gateway.specs.State.{Lists, IndexLists, line_at, lines_in, first_numbers, gate_in, index_in, box_in, box_of, lists_of, index_lists_of, SameToTheCount, SameLengths}
use Rattle.gateway.specs.Answers.{seen_of, bad_lengths, bad_index_lengths, bad_lists, lent_step}
use Rattle.gateway.specs.Asking.{lent_why}
use Rattle.gateway.specs.Indexing.{entry_in}

same_lengths : (t u : Lists) (x y : IndexLists) → SameLengths t x u y → x.sets ≡ y.sets → bad_lists t x ≡ bad_lists u y
same_lengths t u x y l e = λ i. bad_lengths (l.nodes i) (l.starts i) (l.ports i) (l.sizes i) || bad_index_lengths (l.order i) (length (e i))

module _ (h k : Head) (t u : Lists) (x y : IndexLists) (s : SameToTheCount h t x k u y) where
  same_box : box_in h t x ≡ box_in k u y
  unfolding gate_in
  same_box =
      let lines = each_same h.count (line_at t) (line_at u) s.places ∙ ap (λ (n : ℕ). lines_in n u) s.count in
      let numbers = each_same h.count (entry_in x.order) (entry_in y.order) s.numbers ∙ ap (λ (n : ℕ). first_numbers n y.order) s.count in
      λ i. record {
        gate = record { ports = s.ports i; automatic = s.automatic i; lines = lines i; marked = in_set (s.marks i) };
        index = record { order = numbers i; sets = s.sets i };
      }

  -- Heads with lent lists of the same lengths that differ only there get the same answers, the same next state and the same index.
  pub past_the_count_lent : SameLengths t x u y → (q : ℕ) (bytes : List ℕ) → seen_of (index_in h.count x) (lent_step h t x q bytes) ≡ seen_of (index_in k.count y) (lent_step k u y q bytes)
  past_the_count_lent l q bytes =
      λ i. seen_of (same_box i).index (cond (same_lengths t u x y l s.sets i) (refusing (same_box i).gate 7) (box_step (same_box i) q bytes))

  -- And so does whoever asks why.
  pub past_the_count_why : SameLengths t x u y → (q p : ℕ) (bytes : List ℕ) → lent_why h t x q p bytes ≡ lent_why k u y q p bytes
  unfolding gate_in
  past_the_count_why l q p bytes =
      λ i. cond (same_lengths t u x y l s.sets i || strays (same_box i).index (same_box i).gate.lines) (refused 7 []) (why_told (same_box i).gate q p bytes)

-- So do states by value.
pub past_the_count : (a b : Gateway) → SameToTheCount a.head (lists_of a) (index_lists_of a) b.head (lists_of b) (index_lists_of b) → (q : ℕ) (bytes : List ℕ)
    → seen_of (box_of a).index (box_step (box_of a) q bytes) ≡ seen_of (box_of b).index (box_step (box_of b) q bytes)
past_the_count a b s q bytes = ap (λ (g : Box). seen_of g.index (box_step g q bytes)) (same_box a.head b.head (lists_of a) (lists_of b) (index_lists_of a) (index_lists_of b) s)
