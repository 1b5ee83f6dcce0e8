-- The lines of the entries that are still to come, after one of them.
use Prim.Native.Nat.{ℕ, suc, ◌-◌}
use mathlib.Core.Path.{◌≡◌, refl, sym, ap, ◌∙◌}
use mathlib.Core.List.{List, [], ◌++◌}
use Rattle.std.specs.Prelude.{Some, None}
use native.Mathlib.Numerals.{add-one}
use native.Mathlib.Omega.{arith}
use lib.ListN.{length}
use Rattle.gateway_rules.specs.State.{Gate}
use Rattle.index_rules.specs.Index.{Index}
use Rattle.gateway.specs.State.{lists_of, line_at, gate_in, gate_of}
use Rattle.gateway_rules.specs.Step.{Outcome, step}
use Rattle.gateway.specs.declared.state.Gateway.{Gateway}
use Rattle.gateway.specs.declared.LentAnswer.{LentAnswer}
use Rattle.gateway.specs.Answers.{Seen, seen_held, seen_of}
use Rattle.basics.proofs.Each.{each_length}
use Rattle.replay.specs.declared.entries.Entry.{Entry}
use Rattle.replay.specs.declared.entries.Entries.{Entries}
use Rattle.replay.specs.Entries.{GivesEntry}
use Rattle.replay.specs.Files.{entry_count}
use Rattle.replay.specs.Lines.{line_of, line_for, step_at, lines_from, lines_of}

module _ (i : ℕ) (g : Gate) (s : List ℕ) where
  lines_end : lines_from 0 i g s ≡ []
  unfolding lines_from
  lines_end = refl

  lines_next : (n : ℕ) → lines_from (suc n) i g s ≡ line_for i (step_at g s i) ++ lines_from n (suc i) (step_at g s i).next s
  unfolding lines_from
  lines_next n = refl

-- The line of an answer, with the count that the step leaves.
line_for_lem : (i : ℕ) (o : Outcome) (a : LentAnswer) (g : Gateway) (before : Index) → seen_held a g ≡ seen_of before o → line_of i a.refusal a.sent g.head.count ≡ line_for i o
unfolding gate_in
line_for_lem i o a g before e =
    let count = sym (each_length g.head.count (line_at (lists_of g))) ∙ ap (λ (x : Seen). length x.gate.lines) e in
    λ z. line_of i (e z).refusal (e z).sent (count z)

module _ (g : Gate) (e after : Entries) where
  pub lines_none : GivesEntry e None after → lines_of g e ≡ []
  lines_none h =
      let none : entry_count e.file.now - e.index ≡ 0 = omega (arith, h) in
      ap (λ (n : ℕ). lines_from n e.index g e.file.now) none ∙ lines_end e.index g e.file.now

  -- The first of them is the entry's.
  pub lines_some : (entry : Entry) (a : LentAnswer) (next : Gateway) (before : Index) → GivesEntry e (Some entry) after
      → seen_held a next ≡ seen_of before (step g entry.port entry.body.now)
      → lines_of g e ≡ line_of entry.index a.refusal a.sent next.head.count ++ lines_of (gate_of next) after
  lines_some entry a next before h s =
      let file = e.file.now in
      let i = e.index in
      let taken : seen_held a next ≡ seen_of before (step_at g file i) = s ∙ λ z. seen_of before (step g (h.2 z) (h.3 z)) in
      let left : entry_count file - i ≡ suc (entry_count after.file.now - after.index) = omega (arith, h.0, h.5, ap entry_count h.4) in
      let line = ap (λ (n : ℕ). line_of n a.refusal a.sent next.head.count) h.1 ∙ line_for_lem i (step_at g file i) a next before taken in
      ap (λ (n : ℕ). lines_from n i g file) left
      ∙ lines_next i g file (entry_count after.file.now - after.index)
      ∙ λ z. sym line z ++ lines_from (entry_count after.file.now - after.index) (sym (h.5 ∙ add-one i) z) (sym taken z).gate (sym h.4 z)
