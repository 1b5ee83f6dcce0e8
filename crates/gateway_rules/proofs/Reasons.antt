-- W1: a report is sent exactly where its reason says so, and a reason is true of the boards and not only of the table.
use Prim.Native.Nat.{ℕ, suc, ◌+◌, ◌<◌}
use mathlib.Core.Path.{◌≡◌, refl, sym, ap, ap₂, ◌∙◌, subst}
use mathlib.Core.Logic.{◌↔◌}
use mathlib.Core.Bool.{Bool, true, false, cond, not, ◌&&◌, ◌||◌, true≢false}
use mathlib.Core.List.{List, [], ◌∷◌, ◌++◌}
use native.Mathlib.Nat.{add-zero}
use native.Mathlib.Omega.{arith}
use borrow.Author.Tests.{lt-ltb, eqb-true, eqb-false}
use lib.Dec.{eqb, leb}
use lib.ListN.{length}
use Rattle.range.specs.declared.Block.{Block}
use Rattle.range.specs.Range.{in_block}
use Rattle.basics.specs.Lists.{any, Among}
use Rattle.basics.proofs.Among.{among_put}
use Rattle.basics.proofs.Bools.{both}
use Rattle.message.specs.Reading.{message_in}
use Rattle.gateway_rules.specs.declared.Line.{Line}
use Rattle.gateway_rules.specs.declared.Holder.{Holder}
use Rattle.gateway_rules.specs.declared.Reason.{Reason}
use Rattle.gateway_rules.specs.declared.Reason.TheVariants.{ArrivalPort, AutomaticEvent, OpenPort, HeldBy, NothingHolds}
use Rattle.gateway_rules.specs.State.{Gate, start_of}
use Rattle.gateway_rules.specs.Step.{line_holds, wants, wanted_at, goes_to, Outcome, step, start}
use Rattle.gateway_rules.specs.History.{Entry, after, Heard, accepted, left_by, Live, Opened, Holds, Reports, HeldBack}
use Rattle.gateway_rules.specs.Reasons.{holder, first_holding, reason_for, sends, by_line, reason_told, FirstHolding, TrueOf}
use Rattle.gateway_rules.proofs.Holding.{holds_always}
use Rattle.gateway_rules.proofs.Bounds.{bounded_start}
use Rattle.gateway_rules.proofs.Hearing.{left_box, history_left}
use Rattle.gateway_rules.proofs.Demand3.{held_back, step_taken, start_taken}

-- ---- one step

-- A line is named exactly where one holds the event.
first_sends : (p e place : ℕ) (lines : List Line) → sends (by_line (first_holding p e place lines)) ≡ any (line_holds p e) lines
unfolding first_holding
first_sends p e place [] = refl
first_sends p e place (l ∷ lines) = go (line_holds p e l) (first_sends p e (suc place) lines)
  where
    go : (t : Bool) → sends (by_line (first_holding p e (suc place) lines)) ≡ any (line_holds p e) lines
        → sends (by_line (cond t (holder place l ∷ []) (first_holding p e (suc place) lines))) ≡ (t || any (line_holds p e) lines)
    go true rest = refl
    go false rest = rest

-- What a reason sends is what the step's rule wants, at every port but that of arrival.
reason_wants : (g : Gate) (q e p : ℕ) → sends (reason_for g q e p) ≡ (not (eqb p q) && wants g p e)
unfolding reason_for wants
reason_wants g q e p = go (eqb p q) (in_block g.automatic e) (g.marked p)
  where
    go : (arrival automatic marked : Bool)
        → sends (cond arrival ArrivalPort (cond automatic AutomaticEvent (cond marked OpenPort (by_line (first_holding p e 0 g.lines)))))
        ≡ (not arrival && (automatic || (marked || any (line_holds p e) g.lines)))
    go true automatic marked = refl
    go false true marked = refl
    go false false true = refl
    go false false false = first_sends p e 0 g.lines

-- THEOREM: an accepted report is sent to a port exactly when its reason there is the second, third or fourth.
pub reason_sends : (g : Gate) (q : ℕ) (bytes : List ℕ) → (step g q bytes).refusal ≡ 0 → (e : ℕ) → Reports e (message_in bytes) → (p : ℕ) → p < g.ports
    → (step g q bytes).to p ≡ sends (reason_for g q e p)
unfolding goes_to
reason_sends g q bytes a e m p l =
    ap (λ (o : Outcome). o.to p) (step_taken g q bytes a)
    ∙ rw (lt-ltb p g.ports l) (ap (λ (t : Bool). not (eqb p q) && t) (ap (wanted_at g p) m.says) ∙ sym (reason_wants g q e p))

-- In document 02's numbers.
pub sends_number : (r : Reason) → sends r ≡ (leb 2 (reason_told r).number && leb (reason_told r).number 4)
sends_number ArrivalPort = refl
sends_number AutomaticEvent = refl
sends_number OpenPort = refl
sends_number (HeldBy l) = refl
sends_number NothingHolds = refl

-- ---- the line that is named

-- It is the first in table order that is for p and holds the event, and is named by its place.
first_holding_lem : (p e place : ℕ) (lines : List Line) (l : Holder) (more : List Holder) → first_holding p e place lines ≡ l ∷ more → FirstHolding p e place lines l
unfolding first_holding
first_holding_lem p e place [] l more f = let z : ◌≡◌ {A = ℕ} 0 1 = cc in absurd (omega arith)
first_holding_lem p e place (x ∷ xs) l more f = go (line_holds p e x) refl (first_holding_lem p e (suc place) xs l more)
  where
    one_named : (a b : Holder) → a ∷ more ≡ b ∷ [] → a ≡ b
    one_named a b e = cc

    go : (t : Bool) → line_holds p e x ≡ t → (first_holding p e (suc place) xs ≡ l ∷ more → FirstHolding p e (suc place) xs l) → FirstHolding p e place (x ∷ xs) l
    go true t rest =
        let here = one_named l (holder place x) (sym f ∙ ap (λ (b : Bool). cond b (holder place x ∷ []) (first_holding p e (suc place) xs)) t) in
        record {
          before = [];
          line = x;
          later = xs;
          table = refl;
          none_before = refl;
          holds = t;
          at = ap (λ (h : Holder). h.place) here ∙ sym (add-zero place);
          owner = ap (λ (h : Holder). h.node) here;
          block = ap (λ (h : Holder). h.block) here;
        }
    go false t rest =
        let w = rest (sym (ap (λ (b : Bool). cond b (holder place x ∷ []) (first_holding p e (suc place) xs)) t) ∙ f) in
        let further : suc place + length w.before ≡ place + length (x ∷ w.before) = omega arith in
        record {
          before = x ∷ w.before;
          line = w.line;
          later = w.later;
          table = ap (λ (ls : List Line). x ∷ ls) w.table;
          none_before = ap₂ (λ (a b : Bool). a || b) t w.none_before;
          holds = w.holds;
          at = w.at ∙ further;
          owner = w.owner;
          block = w.block;
        }

-- Lines behind one that is named do not matter, and those before that hold nothing are passed over.
pub named_before : (p e place : ℕ) (xs ys : List Line) {l : Holder} {more : List Holder}
    → first_holding p e place xs ≡ l ∷ more → first_holding p e place (xs ++ ys) ≡ l ∷ more
unfolding first_holding
named_before p e place [] ys f = let z : ◌≡◌ {A = ℕ} 0 1 = cc in absurd (omega arith)
named_before p e place (x ∷ xs) ys {l} {more} f = go (line_holds p e x) (named_before p e (suc place) xs ys) f
  where
    go : (t : Bool) → (first_holding p e (suc place) xs ≡ l ∷ more → first_holding p e (suc place) (xs ++ ys) ≡ l ∷ more)
        → cond t (holder place x ∷ []) (first_holding p e (suc place) xs) ≡ l ∷ more
        → cond t (holder place x ∷ []) (first_holding p e (suc place) (xs ++ ys)) ≡ l ∷ more
    go true rest f = f
    go false rest f = rest f

pub none_before : (p e place : ℕ) (xs ys : List Line) → first_holding p e place xs ≡ [] → first_holding p e place (xs ++ ys) ≡ first_holding p e (place + length xs) ys
unfolding first_holding
none_before p e place [] ys f = ap (λ (n : ℕ). first_holding p e n ys) (sym (add-zero place))
none_before p e place (x ∷ xs) ys f = go (line_holds p e x) (none_before p e (suc place) xs ys) f
  where
    go : (t : Bool) → (first_holding p e (suc place) xs ≡ [] → first_holding p e (suc place) (xs ++ ys) ≡ first_holding p e (suc place + length xs) ys)
        → cond t (holder place x ∷ []) (first_holding p e (suc place) xs) ≡ []
        → cond t (holder place x ∷ []) (first_holding p e (suc place) (xs ++ ys)) ≡ first_holding p e (place + length (x ∷ xs)) ys
    go true rest f = let z : ◌≡◌ {A = ℕ} 0 1 = cc in absurd (omega arith)
    go false rest f = let further : suc place + length xs ≡ place + length (x ∷ xs) = omega arith in rest f ∙ ap (λ (n : ℕ). first_holding p e n ys) further

-- ---- what each reason says of the state

abbrev SaysOf : Gate → ℕ → ℕ → ℕ → Reason → Type 0
SaysOf g q e p ArrivalPort = p ≡ q
SaysOf g q e p AutomaticEvent = (p ≡ q → ⊥) × (in_block g.automatic e ≡ true)
SaysOf g q e p OpenPort = (p ≡ q → ⊥) × (in_block g.automatic e ≡ false) × (g.marked p ≡ true)
SaysOf g q e p (HeldBy l) = (p ≡ q → ⊥) × (in_block g.automatic e ≡ false) × (g.marked p ≡ false) × FirstHolding p e 0 g.lines l
SaysOf g q e p NothingHolds = (p ≡ q → ⊥) × (wants g p e ≡ false)

pub reason_says : (g : Gate) (q e p : ℕ) → SaysOf g q e p (reason_for g q e p)
unfolding reason_for wants
reason_says g q e p = by_arrival (eqb p q) refl
  where
    by_line_lem : (p ≡ q → ⊥) → in_block g.automatic e ≡ false → g.marked p ≡ false → (found : List Holder) → first_holding p e 0 g.lines ≡ found → SaysOf g q e p (by_line found)
    by_line_lem other a m [] f = (other, ap₂ (λ (x y : Bool). x || y) a (ap₂ (λ (x y : Bool). x || y) m (sym (first_sends p e 0 g.lines) ∙ ap (λ (found : List Holder). sends (by_line found)) f)))
    by_line_lem other a m (l ∷ more) f = (other, a, m, first_holding_lem p e 0 g.lines l more f)

    by_mark_lem : (p ≡ q → ⊥) → in_block g.automatic e ≡ false → (t : Bool) → g.marked p ≡ t → SaysOf g q e p (cond t OpenPort (by_line (first_holding p e 0 g.lines)))
    by_mark_lem other a true m = (other, a, m)
    by_mark_lem other a false m = by_line_lem other a m (first_holding p e 0 g.lines) refl

    by_automatic : (p ≡ q → ⊥) → (t : Bool) → in_block g.automatic e ≡ t → SaysOf g q e p (cond t AutomaticEvent (cond (g.marked p) OpenPort (by_line (first_holding p e 0 g.lines))))
    by_automatic other true a = (other, a)
    by_automatic other false a = by_mark_lem other a (g.marked p) refl

    by_arrival : (t : Bool) → eqb p q ≡ t → SaysOf g q e p (cond t ArrivalPort (cond (in_block g.automatic e) AutomaticEvent (cond (g.marked p) OpenPort (by_line (first_holding p e 0 g.lines)))))
    by_arrival true a = eqb-true p q a
    by_arrival false a = by_automatic (eqb-false p q a) (in_block g.automatic e) refl

-- The line that a reason names.
pub line_named : (g : Gate) (q e p : ℕ) (l : Holder) → reason_for g q e p ≡ HeldBy l → FirstHolding p e 0 g.lines l
line_named g q e p l f = (subst (SaysOf g q e p) f (reason_says g q e p)).3

-- ---- every history: a reason is true of the boards

module _ (start : Gate) (empty : start.lines ≡ []) (closed : (p : ℕ) → start.marked p ≡ false) (h : List Heard) (q e p : ℕ) where
  abbrev g : Gate
  g = left_by start h

  holds : Holds start g h
  holds = holds_always start empty closed h

  automatic : {t : Bool} → in_block g.automatic e ≡ t → in_block start.automatic e ≡ t
  automatic a = sym (ap (λ (b : Block). in_block b e) (left_box start h).1) ∙ a

  -- The line that holds the event is of a live announcement.
  live_line : (l : Holder) → FirstHolding p e 0 g.lines l → Live h p l.node l.block × (in_block l.block e ≡ true)
  live_line l w =
      let parts = both (eqb w.line.port p) (in_block w.line.block e) w.holds in
      let there = subst (Among w.line) (sym w.table) (among_put w.before w.later w.line) in
      let live = holds.lines_live w.line there in
      let here = subst (λ (n : ℕ). Live h n w.line.node w.line.block) (eqb-true w.line.port p parts.0) live in
      let named = subst (λ (n : ℕ). Live h p n w.line.block) (sym w.owner) here in
      (subst (Live h p l.node) (sym w.block) named, ap (λ (b : Block). in_block b e) w.block ∙ parts.1)

  true_of : (r : Reason) → SaysOf g q e p r → TrueOf start h q e p r
  true_of ArrivalPort s = s
  true_of AutomaticEvent s = (s.0, automatic s.1)
  true_of OpenPort s = (s.0, automatic s.1, holds.marks_opened p s.2)
  true_of (HeldBy l) s = let w = live_line l s.3 in (s.0, automatic s.1, λ o. true≢false (sym (holds.opened_marks p o) ∙ s.2), w.0, w.1)
  true_of NothingHolds s = (s.0, held_back start empty closed h p e s.1)

-- THEOREM: from any start, over any messages in any order, the reason that the crew is told is true of the boards.
pub reason_true : (ports r : ℕ) → (start ports r).refusal ≡ 0 → (h : List Entry) (q e p : ℕ)
    → TrueOf (start ports r).next (accepted ports h) q e p (reason_for (after (start ports r).next h) q e p)
reason_true ports r s h q e p =
    let begun = start_taken ports r s in
    let g = start_of ports r in
    let left = history_left g (bounded_start ports r begun.0) h in
    let here = true_of g refl (λ _. refl) (accepted ports h) q e p (reason_for (left_by g (accepted ports h)) q e p) (reason_says (left_by g (accepted ports h)) q e p) in
    subst (λ (x : Gate). TrueOf x (accepted ports h) q e p (reason_for (after x h) q e p)) (sym begun.1)
    (subst (λ (x : Gate). TrueOf g (accepted ports h) q e p (reason_for x q e p)) (sym left.as_left) here)

module _ (ports r : ℕ) (s : (start ports r).refusal ≡ 0) (h : List Entry) (q e p : ℕ) where
  abbrev reason : Reason
  reason = reason_for (after (start ports r).next h) q e p

  abbrev True : Reason → Type 0
  True = TrueOf (start ports r).next (accepted ports h) q e p

  here : True reason
  here = reason_true ports r s h q e p

  -- Of another port than that of arrival, "nothing" is the reason exactly when demand 3 holds the report back.
  pub nothing_exactly : (p ≡ q → ⊥) → (reason ≡ NothingHolds) ↔ HeldBack (start ports r).next (accepted ports h) p e
  nothing_exactly other = (λ f. (subst True f here).1, λ k. go k reason here)
    where
      go : HeldBack (start ports r).next (accepted ports h) p e → (x : Reason) → True x → x ≡ NothingHolds
      go k ArrivalPort t = absurd (other t)
      go k AutomaticEvent t = absurd (true≢false (sym t.1 ∙ k.not_automatic))
      go k OpenPort t = absurd (k.not_opened t.2)
      go k (HeldBy l) t = absurd (k.not_live l.node l.block t.3 t.4)
      go k NothingHolds t = refl

  -- Of another port than that of arrival and an event that is not automatic, "open" is the reason exactly when the port was opened.
  pub open_exactly : (p ≡ q → ⊥) → in_block (start ports r).next.automatic e ≡ false → (reason ≡ OpenPort) ↔ Opened (start ports r).next (accepted ports h) p
  open_exactly other a = (λ f. (subst True f here).2, λ o. go o reason here)
    where
      go : Opened (start ports r).next (accepted ports h) p → (x : Reason) → True x → x ≡ OpenPort
      go o ArrivalPort t = absurd (other t)
      go o AutomaticEvent t = absurd (true≢false (sym t.1 ∙ a))
      go o OpenPort t = refl
      go o (HeldBy l) t = absurd (t.2 o)
      go o NothingHolds t = absurd (t.1.not_opened o)

  -- A line that is named belongs to a live announcement of that node at that port, whose block holds the event.
  pub named_live : (l : Holder) → reason ≡ HeldBy l → Live (accepted ports h) p l.node l.block × (in_block l.block e ≡ true)
  named_live l f = let t = subst True f here in (t.3, t.4)
