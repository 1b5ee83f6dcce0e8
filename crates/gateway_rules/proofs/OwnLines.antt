-- G4: no node's message removes another node's line. Of its own lines a restart removes all, at every port, and an announcement those that it holds, at its own port.
use Prim.Native.Nat.{ℕ}
use mathlib.Core.Path.{◌≡◌, refl, sym, ap, ◌∙◌}
use mathlib.Core.Logic.{◌⊎◌, inl, inr, ⊎_elim}
use mathlib.Core.Bool.{Bool, true, false, cond}
use mathlib.Core.List.{List, [], ◌∷◌, ◌++◌, append-nil}
use borrow.Author.Tests.{eq-eqb}
use Rattle.range.specs.declared.Block.{Block}
use Rattle.message.specs.declared.Message.{Message}
use Rattle.message.specs.declared.Saying.{Saying}
use Rattle.message.specs.declared.Saying.TheVariants.{Restart}
use Rattle.message.specs.Reading.{message_in}
use Rattle.message.specs.Saying.{said_by}
use Rattle.basics.specs.Lists.{any, without}
use Rattle.basics.proofs.Lists.{none_stays, without_append, without_nothing, without_more, without_again}
use Rattle.basics.proofs.Among.{any_replaced}
use Rattle.gateway_rules.specs.declared.Line.{Line}
use Rattle.gateway_rules.specs.State.{Gate}
use Rattle.gateway_rules.specs.Step.{line, held_by, of_node, at_port, line_holds, Gained, hear, taken, Outcome, step}
use Rattle.gateway_rules.specs.History.{Heard, Restarts, Live}
use Rattle.gateway_rules.proofs.Within.{inner, within_holds}
use Rattle.gateway_rules.proofs.Changes.{Change, change_of, by_step}
use Rattle.gateway_rules.proofs.Changes.Change.{restarted, covered_already, replaced, added, opened, passed}
use Rattle.gateway_rules.proofs.Demand3.{step_taken}
use Rattle.gateway_rules.proofs.Holding.{live_end, no_restart}

-- ---- what a message does to the lines

-- A restart leaves those of other nodes; any other message leaves all, but for those that a line of its sender at its port holds.
abbrev Changed : ℕ → Message → List Line → List Line → Type 0
Changed q m lines later = ((said_by m ≡ Restart) × (later ≡ without (of_node m.source) lines)) ⊎ Gained q m.source (said_by m) lines later

lines_changed : (g : Gate) (q : ℕ) (m : Message) {g' : Gate} → Change g q m g' → Changed q m g.lines g'.lines
lines_changed g q m (restarted e) = inl (e, refl)
lines_changed g q m (covered_already b e t) = inr (inl refl)
lines_changed g q m (replaced b e f t) = inr (inr (b, e, f, refl))
lines_changed g q m (added b e n room) =
    inr (inr (b, e, n.not_inside, ap (λ (lines : List Line). lines ++ (line q m.source b ∷ [])) (sym (without_nothing (held_by (line q m.source b)) g.lines n.holds_none))))
lines_changed g q m (opened b e n most) = inr (inl refl)
lines_changed g q m (passed e) = inr (inl refl)

-- By a test that the lines of the node at the port pass, the rest is as it was.
rest_kept : (own : Line → Bool) (q n : ℕ) (saying : Saying) → ((l : Line) → l.port ≡ q → l.node ≡ n → own l ≡ true)
    → (lines later : List Line) → Gained q n saying lines later → without own later ≡ without own lines
rest_kept own q n saying passes lines later (inl e) = ap (without own) e
rest_kept own q n saying passes lines later (inr (b, says, outside, e)) =
    let l = line q n b in
    let rest = without (held_by l) lines in
    ap (without own) e
    ∙ without_append own rest (l ∷ [])
    ∙ ap (λ (t : Bool). without own rest ++ cond t [] (l ∷ [])) (passes l refl refl)
    ∙ append-nil (without own rest)
    ∙ without_more (held_by l) own lines (λ x h. let i = inner x l h in passes x i.port i.node)

-- ---- other nodes' lines

others_change : (g : Gate) (q : ℕ) (m : Message) {g' : Gate} → Change g q m g' → without (of_node m.source) g'.lines ≡ without (of_node m.source) g.lines
others_change g q m {g'} c =
    ⊎_elim (λ w. ap (without (of_node m.source)) w.1 ∙ without_again (of_node m.source) g.lines)
    (rest_kept (of_node m.source) q m.source (said_by m) (λ l _ e. eq-eqb l.node m.source e) g.lines g'.lines)
    (lines_changed g q m c)

-- The lines of every other node are the same after a step, in the same order.
pub others_lines : (g : Gate) (q : ℕ) (bytes : List ℕ)
    → without (of_node (message_in bytes).source) (step g q bytes).next.lines ≡ without (of_node (message_in bytes).source) g.lines
others_lines g q bytes =
    let m = message_in bytes in
    by_step g q bytes (λ (x : Gate). without (of_node m.source) x.lines ≡ without (of_node m.source) g.lines) refl (others_change g q m (change_of g q m))

-- ---- the sender's own

-- A message that is no restart leaves the lines as they are, or puts what its sender announces, at the port that it came in by, behind those that this does not hold.
pub only_own_lines : (g : Gate) (q : ℕ) (bytes : List ℕ) → (said_by (message_in bytes) ≡ Restart → ⊥)
    → Gained q (message_in bytes).source (said_by (message_in bytes)) g.lines (step g q bytes).next.lines
only_own_lines g q bytes other =
    let m = message_in bytes in
    by_step g q bytes (λ (x : Gate). Gained q m.source (said_by m) g.lines x.lines) (inl refl)
    (⊎_elim (λ w. absurd (other w.0)) (λ gained. gained) (lines_changed g q m (change_of g q m)))

-- So the lines of every other port are the same after it, in the same order.
pub other_ports_lines : (g : Gate) (q : ℕ) (bytes : List ℕ) → (said_by (message_in bytes) ≡ Restart → ⊥)
    → without (at_port q) (step g q bytes).next.lines ≡ without (at_port q) g.lines
other_ports_lines g q bytes other =
    rest_kept (at_port q) q (message_in bytes).source (said_by (message_in bytes)) (λ l e _. eq-eqb l.port q e) g.lines (step g q bytes).next.lines (only_own_lines g q bytes other)

-- And no event is forgotten: what a line held at a port, one holds there after it.
pub nothing_forgotten : (g : Gate) (q : ℕ) (bytes : List ℕ) → (said_by (message_in bytes) ≡ Restart → ⊥)
    → (p e : ℕ) → any (line_holds p e) g.lines ≡ true → any (line_holds p e) (step g q bytes).next.lines ≡ true
nothing_forgotten g q bytes other p e t = go (only_own_lines g q bytes other)
  where
    go : Gained q (message_in bytes).source (said_by (message_in bytes)) g.lines (step g q bytes).next.lines → any (line_holds p e) (step g q bytes).next.lines ≡ true
    go (inl same) = ap (any (line_holds p e)) same ∙ t
    go (inr (b, says, outside, more)) =
        let l = line q (message_in bytes).source b in
        ap (any (line_holds p e)) more ∙ any_replaced (line_holds p e) (held_by l) g.lines l (λ x h o. within_holds p e x l o h) t

-- A board that comes up leaves no line behind: once its Initialization Complete is accepted, at whichever port, none of its lines is there.
pub restart_removes : (g : Gate) (q : ℕ) (bytes : List ℕ) → (step g q bytes).refusal ≡ 0 → said_by (message_in bytes) ≡ Restart
    → any (of_node (message_in bytes).source) (step g q bytes).next.lines ≡ false
unfolding taken
restart_removes g q bytes a e =
    let n = (message_in bytes).source in
    ap (λ (o : Outcome). any (of_node n) o.next.lines) (step_taken g q bytes a)
    ∙ ap (λ (saying : Saying). any (of_node n) (hear g q n saying).lines) e
    ∙ none_stays (of_node n) g.lines

-- And nothing that it announced before, at any port, is live.
pub restart_ends : (h : List Heard) (s : Heard) (p n : ℕ) (b : Block) → Restarts n s → Live (h ++ (s ∷ [])) p n b → ⊥
restart_ends h s p n b r l = ⊎_elim (λ a. no_restart b a.says r) (λ k. k.1 r) (live_end p n b h s l)
