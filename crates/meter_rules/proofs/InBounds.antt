-- A step keeps a gate in bounds. Only the marks of eight ports can put one out of bounds, so those past them are left out first.
use Prim.Native.Nat.{ℕ, zero, suc, ◌<◌}
use mathlib.Core.Path.{◌≡◌, refl, sym, ap, ◌∙◌, subst, fun_ext}
use mathlib.Core.Bool.{Bool, true, false, cond, not, ◌&&◌, ◌||◌, and-true}
use mathlib.Core.List.{List}
use native.Mathlib.Omega.{arith}
use borrow.Author.Tests.{ltb-true, ltb-false, lt-ltb, leb-false, eqb-true, not-false}
use lib.Dec.{eqb, leb, ltb}
use lib.ListN.{length}
use Rattle.range.specs.Range.{has_number}
use Rattle.basics.specs.Lists.{any}
use Rattle.basics.specs.Refusals.{first_of, answered}
use Rattle.basics.proofs.Bools.{both, neither}
use Rattle.message.specs.declared.Message.{Message}
use Rattle.message.specs.declared.Saying.{Saying}
use Rattle.message.specs.declared.Saying.TheVariants.{Report, Announcement, Restart, Inquiry, InquiryForAll, Learn, Nothing}
use Rattle.message.specs.Reading.{message_in}
use Rattle.message.specs.Saying.{said_by}
use Rattle.gateway_rules.specs.declared.Line.{Line}
use Rattle.gateway_rules.specs.State.{Gate, full, bad_ports, bad_line, stray_mark, bad_beside_lines, out_of_bounds}
use Rattle.gateway_rules.specs.Step.{line, covered, holds_some, adding, replacing, opening, announce, hear, taken, taking, refusing, step_tests, step}
use Rattle.gateway_rules.specs.History.{Entry}
use Rattle.gateway_rules.proofs.Bounds.{Bounded, bounded_in}
use Rattle.gateway_rules.proofs.Hearing.{step_heard, heard_bounded}
use Rattle.gateway_rules.proofs.Sending.{refusal_first, two_to_eight}
use Rattle.index_rules.proofs.Passing.{each_fails}
use Rattle.meter_rules.proofs.Fair.{step_there}

abbrev cut : Gate → Gate
cut g = record { ports = g.ports; automatic = g.automatic; lines = g.lines; marked = λ p. ltb p 8 && g.marked p }

cut_same : (g : Gate) → out_of_bounds (cut g) ≡ out_of_bounds g
unfolding out_of_bounds
cut_same g = refl

cut_bounded : (g : Gate) → out_of_bounds g ≡ false → Bounded (cut g)
unfolding out_of_bounds
cut_bounded g i = record {
  ports_ok = ports.0;
  few = ltb-false full (length g.lines) few.0;
  lines_ok = parts.1;
  marks_ok = λ p t.
      let m = both (ltb p 8) (g.marked p) t in
      let off = each_fails 8 (λ x. leb g.ports x && g.marked x) marks.0 p (ltb-true p 8 m.0) in
      leb-false g.ports p (sym (and-true (leb g.ports p)) ∙ ap (λ (x : Bool). leb g.ports p && x) (sym m.1) ∙ off);
  automatic_ok = not-false (has_number g.automatic) marks.1;
}
  where
    parts : (bad_beside_lines g.ports (length g.lines) g.marked g.automatic ≡ false) × (any (bad_line g.ports) g.lines ≡ false)
    parts = neither _ _ i

    ports : (bad_ports g.ports ≡ false) × ((ltb full (length g.lines) || (stray_mark g.ports g.marked || not (has_number g.automatic))) ≡ false)
    ports = neither _ _ parts.0

    few : (ltb full (length g.lines) ≡ false) × ((stray_mark g.ports g.marked || not (has_number g.automatic)) ≡ false)
    few = neither _ _ ports.1

    marks : (stray_mark g.ports g.marked ≡ false) × (not (has_number g.automatic) ≡ false)
    marks = neither _ _ few.1

-- ---- what is left out stays left out

cut_opening : (g : Gate) (q : ℕ) → q < 8 → opening (cut g) q ≡ cut (opening g q)
cut_opening g q l =
    ap (λ (marks : ℕ → Bool). record { ports = g.ports; automatic = g.automatic; lines = g.lines; marked = marks }) (fun_ext (λ p. go p (eqb p q) refl))
  where
    go : (p : ℕ) (t : Bool) → eqb p q ≡ t → (t || (ltb p 8 && g.marked p)) ≡ (ltb p 8 && (t || g.marked p))
    go p true e = ap (λ (x : Bool). x && true) (sym (lt-ltb p 8 (omega (arith, eqb-true p q e))))
    go p false e = refl

cut_taken : (g : Gate) (q : ℕ) (m : Message) → q < 8 → taken (cut g) q m ≡ cut (taken g q m)
unfolding taken announce
cut_taken g q m l = by_saying (said_by m)
  where
    by_line_lem : (x : Line) (s t u : Bool)
        → cond s (cut g) (cond t (replacing (cut g) x) (cond u (adding (cut g) x) (opening (cut g) q)))
        ≡ cut (cond s g (cond t (replacing g x) (cond u (adding g x) (opening g q))))
    by_line_lem x true t u = refl
    by_line_lem x false true u = refl
    by_line_lem x false false true = refl
    by_line_lem x false false false = cut_opening g q l

    by_saying : (s : Saying) → hear (cut g) q m.source s ≡ cut (hear g q m.source s)
    by_saying (Announcement b) =
        let x = line q m.source b in
        by_line_lem x (covered g.lines x) (holds_some g.lines x) (ltb (length g.lines) full)
    by_saying Restart = refl
    by_saying (Report e) = refl
    by_saying (Inquiry role e) = refl
    by_saying (InquiryForAll destination) = refl
    by_saying (Learn e) = refl
    by_saying Nothing = refl

cut_step : (g : Gate) (q : ℕ) (bytes : List ℕ) → out_of_bounds g ≡ false → (step (cut g) q bytes).next ≡ cut (step g q bytes).next
unfolding step out_of_bounds
cut_step g q bytes i = go (first_of (step_tests g q bytes)) refl
  where
    go : (n : ℕ) → first_of (step_tests g q bytes) ≡ n
        → (answered (taking (cut g) q) (refusing (cut g)) n (message_in bytes)).next ≡ cut (answered (taking g q) (refusing g) n (message_in bytes)).next
    go zero e =
        let few = ((two_to_eight g.ports).0 (cut_bounded g i).ports_ok).1 in
        cut_taken g q (message_in bytes) (omega (arith, step_there g q bytes (refusal_first g q bytes ∙ e)))
    go (suc n) e = refl

-- ---- so a step keeps it

pub step_in_bounds : (g : Gate) (e : Entry) → out_of_bounds g ≡ false → out_of_bounds (step g e.port e.bytes).next ≡ false
step_in_bounds g e i =
    let b = cut_bounded g i in
    let kept : Bounded (step (cut g) e.port e.bytes).next = subst Bounded (sym (step_heard (cut g) e (cut_same g ∙ i))) (heard_bounded (cut g) e b) in
    sym (cut_same (step g e.port e.bytes).next) ∙ ap out_of_bounds (sym (cut_step g e.port e.bytes i)) ∙ bounded_in (step (cut g) e.port e.bytes).next kept
