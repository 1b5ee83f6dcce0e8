-- A state in bounds stays in bounds: what is read, at a port that is there, can put nothing out of bounds.
use Prim.Native.Nat.{ℕ, zero, suc, ◌≤◌, ◌<◌, zero-le}
use mathlib.Core.Path.{◌≡◌, refl, sym, ap, ◌∙◌, subst}
use mathlib.Core.Logic.{⊎_elim}
use mathlib.Core.Bool.{Bool, true, false, ◌&&◌, and-false, false≢true}
use mathlib.Core.List.{List, [], ◌∷◌, ◌++◌}
use native.Mathlib.Nat.{le_trans}
use native.Mathlib.Omega.{arith}
use borrow.Author.Tests.{eqb-true, le-ltb, lt-leb}
use lib.Dec.{eqb, leb}
use lib.ListN.{length, length-append}
use Rattle.range.specs.declared.Block.{Block}
use Rattle.range.specs.Range.{has_number}
use Rattle.range.proofs.RoundTrips.{block_of_numbered}
use Rattle.message.specs.declared.Message.{Message}
use Rattle.message.specs.Messages.{bad_node}
use Rattle.message.specs.declared.Saying.TheVariants.{Announcement}
use Rattle.message.specs.Saying.{said_by}
use Rattle.basics.specs.Lists.{any, without}
use Rattle.basics.specs.Sets.{any_below}
use Rattle.gateway_rules.specs.declared.Line.{Line}
use Rattle.gateway_rules.specs.State.{Gate, full, bad_ports, bad_line, out_of_bounds, start_of}
use Rattle.gateway_rules.specs.Step.{line, held_by, with_lines, of_node, taken}
use Rattle.basics.proofs.Lists.{any_append, without_none, fewer_without}
use Rattle.gateway_rules.proofs.Said.{announcement_block}
use Rattle.gateway_rules.proofs.Changes.{Change, change_of, restart_few}
use Rattle.gateway_rules.proofs.Changes.Change.{restarted, covered_already, replaced, added, opened, passed}
use Rattle.gateway_rules.proofs.Holding.{either_true, true_or_false}

pub record Bounded (g : Gate) : Type 0 where
  pub ports_ok : bad_ports g.ports ≡ false
  pub few : length g.lines ≤ full
  pub lines_ok : any (bad_line g.ports) g.lines ≡ false
  pub marks_ok : (p : ℕ) → g.marked p ≡ true → p < g.ports
  pub automatic_ok : has_number g.automatic ≡ true

any_below_none : (n : ℕ) (test : ℕ → Bool) → ((p : ℕ) → test p ≡ false) → any_below n test ≡ false
any_below_none zero test h = refl
any_below_none (suc n) test h = rw (h n) (any_below_none n test h)

pub bounded_in : (g : Gate) → Bounded g → out_of_bounds g ≡ false
unfolding out_of_bounds
bounded_in g b = rw (
  b.ports_ok,
  le-ltb full (length g.lines) b.few,
  any_below_none 8 (λ p. leb g.ports p && g.marked p) stray,
  b.automatic_ok,
  b.lines_ok,
)
  where
    stray : (p : ℕ) → (leb g.ports p && g.marked p) ≡ false
    stray p =
        ⊎_elim (λ t. ap (λ (x : Bool). x && g.marked p) (lt-leb g.ports p (b.marks_ok p t)))
        (λ t. ap (λ (x : Bool). leb g.ports p && x) t ∙ and-false (leb g.ports p))
        (true_or_false (g.marked p))

-- ---- one message later

pub same_box : {g : Gate} {q : ℕ} {m : Message} {g' : Gate} → Change g q m g' → (g'.ports ≡ g.ports) × (g'.automatic ≡ g.automatic)
same_box (restarted e) = (refl, refl)
same_box (covered_already b e t) = (refl, refl)
same_box (replaced b e f t) = (refl, refl)
same_box (added b e n room) = (refl, refl)
same_box (opened b e n most) = (refl, refl)
same_box (passed e) = (refl, refl)

module _ (g : Gate) (q : ℕ) (m : Message) (i : Bounded g) (port : q < g.ports) (node : bad_node m.source ≡ false) where
  -- One line more behind lines in bounds, where there is room.
  bounded_stored : (b : Block) → said_by m ≡ Announcement b → (rest : List Line) → any (bad_line g.ports) rest ≡ false → length rest < full
      → Bounded (with_lines g (rest ++ (line q m.source b ∷ [])))
  bounded_stored b e rest good room = record {
    ports_ok = i.ports_ok;
    few = omega (arith, length-append rest (line q m.source b ∷ []), room);
    lines_ok = any_append (bad_line g.ports) rest (line q m.source b ∷ []) ∙ rw (good, lt-leb g.ports q port, node, announcement_block m b e);
    marks_ok = i.marks_ok;
    automatic_ok = i.automatic_ok;
  }

  bounded_change : {g' : Gate} → Change g q m g' → Bounded g'
  bounded_change (restarted e) = record {
    ports_ok = i.ports_ok;
    few = le_trans (restart_few g q m.source) i.few;
    lines_ok = without_none (bad_line g.ports) (of_node m.source) g.lines i.lines_ok;
    marks_ok = i.marks_ok;
    automatic_ok = i.automatic_ok;
  }
  bounded_change (covered_already b e t) = i
  bounded_change (replaced b e f t) =
      bounded_stored b e (without (held_by (line q m.source b)) g.lines)
      (without_none (bad_line g.ports) (held_by (line q m.source b)) g.lines i.lines_ok)
      (le_trans (fewer_without (held_by (line q m.source b)) g.lines t) i.few)
  bounded_change (added b e n room) = bounded_stored b e g.lines i.lines_ok room
  bounded_change (opened b e n most) = record {
    ports_ok = i.ports_ok;
    few = i.few;
    lines_ok = i.lines_ok;
    marks_ok = λ p t. ⊎_elim (λ u. subst (λ (x : ℕ). x < g.ports) (sym (eqb-true p q u)) port) (i.marks_ok p) (either_true (eqb p q) (g.marked p) t);
    automatic_ok = i.automatic_ok;
  }
  bounded_change (passed e) = i

  pub bounded_taken : Bounded (taken g q m)
  bounded_taken = bounded_change (change_of g q m)

-- ---- the start

pub bounded_start : (ports r : ℕ) → bad_ports ports ≡ false → Bounded (start_of ports r)
bounded_start ports r e = record {
  ports_ok = e;
  few = zero-le;
  lines_ok = refl;
  marks_ok = λ p t. absurd (false≢true t);
  automatic_ok = block_of_numbered r;
}
