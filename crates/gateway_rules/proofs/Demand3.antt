-- G3, THE THEOREM: a report is kept from another port exactly when its event is not automatic, no live announcement at that port
-- holds it, and the port was never opened by a full table. From any start, over any messages in any order, refused ones among them.
use Prim.Native.Nat.{ℕ, zero, suc, ◌<◌}
use mathlib.Core.Path.{◌≡◌, refl, sym, ap, ap₂, ◌∙◌, subst}
use mathlib.Core.Logic.{◌↔◌, ⊎_elim}
use mathlib.Core.Bool.{Bool, true, false, ◌&&◌, ◌||◌, true≢false}
use mathlib.Core.List.{List, []}
use native.Mathlib.Omega.{arith}
use borrow.Author.Tests.{lt-ltb, ne_eqb, eqb-true, eq-eqb}
use lib.Dec.{eqb}
use Rattle.range.specs.declared.Block.{Block}
use Rattle.range.specs.Range.{in_block}
use Rattle.basics.proofs.Bools.{both, neither}
use Rattle.message.specs.declared.Message.{Message}
use Rattle.message.specs.Reading.{message_in}
use Rattle.basics.specs.Refusals.{first_of, answered}
use Rattle.basics.specs.Lists.{any}
use Rattle.basics.proofs.Among.{any_found, any_passed}
use Rattle.gateway_rules.specs.State.{Gate, bad_ports, start_of}
use Rattle.gateway_rules.specs.Step.{line, within, line_holds, wants, wanted_at, goes_to, taking, refusing, step_tests, Outcome, step, start}
use Rattle.gateway_rules.specs.History.{Entry, after, Heard, accepted, left_by, Live, Opened, Holds, Reports, HeldBack}
use Rattle.gateway_rules.proofs.Within.{within_holds}
use Rattle.gateway_rules.proofs.Holding.{holds_always, true_or_false}
use Rattle.gateway_rules.proofs.Bounds.{bounded_start}
use Rattle.gateway_rules.proofs.Hearing.{left_box, history_left}

-- ---- over accepted messages

module _ (g : Gate) (empty : g.lines ≡ []) (closed : (p : ℕ) → g.marked p ≡ false) (h : List Heard) (p e : ℕ) where
  holds : Holds g (left_by g h) h
  holds = holds_always g empty closed h

  unwanted : HeldBack g h p e → wants (left_by g h) p e ≡ false
  unfolding wants
  unwanted k = ap₂ (λ (x y : Bool). x || y) automatic (ap₂ (λ (x y : Bool). x || y) mark lines)
    where
      automatic : in_block (left_by g h).automatic e ≡ false
      automatic = ap (λ (x : Block). in_block x e) (left_box g h).1 ∙ k.not_automatic

      mark : (left_by g h).marked p ≡ false
      mark = ⊎_elim (λ t. absurd (k.not_opened (holds.marks_opened p t))) (λ t. t) (true_or_false ((left_by g h).marked p))

      held : any (line_holds p e) (left_by g h).lines ≡ true → ⊥
      held t =
          let f = any_found (line_holds p e) (left_by g h).lines t in
          let l = f.one in
          let w = both (eqb l.port p) (in_block l.block e) f.passes in
          let live = holds.lines_live l f.there in
          k.not_live l.node l.block (subst (λ (x : ℕ). Live h x l.node l.block) (eqb-true l.port p w.0) live) w.1

      lines : any (line_holds p e) (left_by g h).lines ≡ false
      lines = ⊎_elim (λ t. absurd (held t)) (λ t. t) (true_or_false (any (line_holds p e) (left_by g h).lines))

  pub held_back : wants (left_by g h) p e ≡ false → HeldBack g h p e
  unfolding wants
  held_back t =
      let a = neither (in_block (left_by g h).automatic e) _ t in
      let b = neither ((left_by g h).marked p) (any (line_holds p e) (left_by g h).lines) a.1 in
      let unopened : Opened g h p → ⊥ = λ o. true≢false (sym (holds.opened_marks p o) ∙ b.0) in
      record {
        not_automatic = sym (ap (λ (x : Block). in_block x e) (left_box g h).1) ∙ a.0;
        not_live = λ n k l u.
            ⊎_elim
            (λ t. true≢false (sym (any_passed (within (line p n k)) (line_holds p e) (left_by g h).lines (λ x w. within_holds p e (line p n k) x w (ap₂ (λ (x y : Bool). x && y) (eq-eqb p p refl) u)) t) ∙ b.1))
            unopened
            (holds.live_lines p n k l);
        not_opened = unopened;
      }

-- ---- steps and starts that are not refused

pub step_taken : (g : Gate) (q : ℕ) (bytes : List ℕ) → (step g q bytes).refusal ≡ 0 → step g q bytes ≡ taking g q (message_in bytes)
unfolding step
step_taken g q bytes e = go (first_of (step_tests g q bytes)) e
  where
    go : (n : ℕ) → (answered (taking g q) (refusing g) n (message_in bytes)).refusal ≡ 0 → answered (taking g q) (refusing g) n (message_in bytes) ≡ taking g q (message_in bytes)
    go zero z = refl
    go (suc n) z = let w : ⊥ = omega (arith, z) in absurd w

pub start_taken : (ports r : ℕ) → (start ports r).refusal ≡ 0 → (bad_ports ports ≡ false) × ((start ports r).next ≡ start_of ports r)
unfolding start
start_taken ports r e = go (bad_ports ports) refl
  where
    go : (t : Bool) → bad_ports ports ≡ t → (bad_ports ports ≡ false) × ((start ports r).next ≡ start_of ports r)
    go true f = let w : ⊥ = omega (arith, rw f at e) in absurd w
    go false f = (f, rw f)

-- The port count stays what the box was started with.
pub start_box : (ports r : ℕ) → (start ports r).refusal ≡ 0 → (h : List Entry) → (after (start ports r).next h).ports ≡ ports
start_box ports r s h =
    let begun = start_taken ports r s in
    let left = history_left (start_of ports r) (bounded_start ports r begun.0) h in
    ap (λ (g : Gate). (after g h).ports) begun.1 ∙ ap (λ (x : Gate). x.ports) left.as_left ∙ (left_box (start_of ports r) (accepted ports h)).0

-- Where a report goes, of a port that is there and is not the one it came in by.
pub report_goes : (g : Gate) (q p e : ℕ) (m : Message) → p < g.ports → (p ≡ q → ⊥) → Reports e m → goes_to g q m p ≡ wants g p e
unfolding goes_to
report_goes g q p e m l n r = rw (lt-ltb p g.ports l, ne_eqb p q n) (ap (wanted_at g p) r.says)

-- What the step answers for a port, of a report that is accepted after a history.
pub report_sent : (ports r : ℕ) → bad_ports ports ≡ false → (h : List Entry) (q : ℕ) (bytes : List ℕ) → (step (after (start_of ports r) h) q bytes).refusal ≡ 0
    → (e : ℕ) → Reports e (message_in bytes) → (p : ℕ) → p < ports → (p ≡ q → ⊥)
    → (step (after (start_of ports r) h) q bytes).to p ≡ wants (left_by (start_of ports r) (accepted ports h)) p e
report_sent ports r good h q bytes a e m p l n =
    let g = start_of ports r in
    let left = history_left g (bounded_start ports r good) h in
    let there : (after g h).ports ≡ ports = ap (λ (x : Gate). x.ports) left.as_left ∙ (left_box g (accepted ports h)).0 in
    ap (λ (o : Outcome). o.to p) (step_taken (after g h) q bytes a)
    ∙ report_goes (after g h) q p e (message_in bytes) (subst (λ (x : ℕ). p < x) (sym there) l) n m
    ∙ ap (λ (x : Gate). wants x p e) left.as_left

-- ---- THE THEOREM

pub demand_3 : (ports r : ℕ) → (start ports r).refusal ≡ 0
    → (h : List Entry) (q : ℕ) (bytes : List ℕ) → (step (after (start ports r).next h) q bytes).refusal ≡ 0
    → (e : ℕ) → Reports e (message_in bytes) → (p : ℕ) → p < ports → (p ≡ q → ⊥)
    → ((step (after (start ports r).next h) q bytes).to p ≡ false) ↔ HeldBack (start ports r).next (accepted ports h) p e
demand_3 ports r s h q bytes a e m p l n =
    subst (λ (g : Gate). ((step (after g h) q bytes).to p ≡ false) ↔ HeldBack g (accepted ports h) p e) (sym same) (
      λ t. held_back (start_of ports r) refl (λ _. refl) (accepted ports h) p e (sym sent ∙ t),
      λ k. sent ∙ unwanted (start_of ports r) refl (λ _. refl) (accepted ports h) p e k,
    )
  where
    same : (start ports r).next ≡ start_of ports r
    same = (start_taken ports r s).1

    sent : (step (after (start_of ports r) h) q bytes).to p ≡ wants (left_by (start_of ports r) (accepted ports h)) p e
    sent =
        report_sent ports r (start_taken ports r s).0 h q bytes
        (subst (λ (g : Gate). (step (after g h) q bytes).refusal ≡ 0) same a) e m p l n
