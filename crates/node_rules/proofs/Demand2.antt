-- Demand 2's rule on reports: every report outside the automatic block stands on a Producer Identified message since the last restart.
use Prim.Native.Nat.{ℕ, ◌^◌, ◌<◌}
use mathlib.Core.Path.{◌≡◌, refl, sym, ap, ◌∙◌, subst}
use mathlib.Core.Logic.{⊎_elim}
use mathlib.Core.Bool.{Bool, true, false, cond, not, ◌&&◌, ◌||◌, and-false, or-false, or-true, true≢false, false≢true}
use mathlib.Core.List.{List, [], ◌∷◌, ◌++◌}
use native.Mathlib.Omega.{arith}
use borrow.Author.Tests.{eq-eqb, eqb-true, ne_eqb}
use lib.Dec.{eqb}
use lib.ListN.{length, get_or}
use Rattle.basics.proofs.Each.{each_there}
use Rattle.basics.proofs.Sinces.{by_end, since_new, since_old}
use Rattle.range.specs.declared.Block.{Block}
use Rattle.range.specs.Range.{in_block}
use Rattle.basics.specs.Lists.{any}
use Rattle.message.specs.declared.Kind.{Kind}
use Rattle.message.specs.declared.Kind.TheVariants.{EventReport, ProducerIdentified}
use Rattle.message.specs.declared.Message.{Message}
use Rattle.message.specs.Mti.{same_kind, is_restart, meaning_of, kind_of}
use Rattle.node_rules.specs.declared.Call.{Call}
use Rattle.node_rules.specs.Boards.{Board, advertised, unadvertised, initialized, role_of, event_of, status_of, mark_of}
use Rattle.message.specs.Saying.{producer}
use Rattle.node_rules.specs.Sending.{report, identified, identifying, advertising}
use Rattle.node_rules.specs.Calls.{Outcome, accepting, refusing, no_match, identifying_all, with_status}
use Rattle.node_rules.specs.Histories.{Made, given_by, done_by, done, Done, after, log, messages_in, is_of, wrote, New, is_initialise, restarts, IdentifiedSince}
use Rattle.node_rules.proofs.Pieces.{producer_kind, no_report_kind}
use Rattle.node_rules.proofs.Marking.{like, like_same, Kept, advertising_marks, advertising_keeps}
use Rattle.node_rules.proofs.Steps.{Happened, happened, sent_read, written_read}
use Rattle.node_rules.proofs.Steps.Happened.{refused, restarts as restarting, identifies, reports, sets}

-- ---- calls that grow at the end

made : (b : Board) (c : Made) → Happened b c.call (given_by b c)
made b c = happened b c.call c.bytes (length c.out)

after_end : (b : Board) (cs : List Made) (c : Made) → after b (cs ++ (c ∷ [])) ≡ (given_by (after b cs) c).next
after_end b [] c = refl
after_end b (x ∷ cs) c = after_end (given_by b x).next cs c

log_end : (b : Board) (cs : List Made) (c : Made) → log b (cs ++ (c ∷ [])) ≡ log b cs ++ (done (after b cs) c ∷ [])
log_end b [] c = refl
log_end b (x ∷ cs) c = ap (λ (l : List Done). done b x ∷ l) (log_end (given_by b x).next cs c)

-- ---- which kinds a board writes

-- A message of a kind for an event.
abbrev says : Kind → ℕ → Message → Bool
says k e m = same_kind k (kind_of m.mti) && is_of e m.event

no_report_lem : (b : Board) (js : List ℕ) (e : ℕ) → any (says EventReport e) (identifying b js) ≡ false
no_report_lem b [] e = refl
no_report_lem b (j ∷ js) e = rw (no_report_kind (role_of b.slots j) (status_of b.slots j)) (no_report_lem b js e)

-- Identifying a slot like a producer slot writes Producer Identified for its event.
producer_said : (b : Board) (js : List ℕ) (i : ℕ) → role_of b.slots i ≡ producer → any (λ j. like b.slots j i) js ≡ true
    → any (says ProducerIdentified (event_of b.slots i)) (identifying b js) ≡ true
producer_said b [] i r h = absurd (false≢true h)
producer_said b (j ∷ js) i r h = go (like b.slots j i) refl (producer_said b js i r) h
  where
    go : (t : Bool) → like b.slots j i ≡ t
        → (any (λ j. like b.slots j i) js ≡ true → any (says ProducerIdentified (event_of b.slots i)) (identifying b js) ≡ true)
        → (t || any (λ j. like b.slots j i) js) ≡ true
        → any (says ProducerIdentified (event_of b.slots i)) (identified b j ∷ identifying b js) ≡ true
    go true l rest h =
        let s = like_same b.slots j i l in
        let kind = producer_kind (role_of b.slots j) (status_of b.slots j) ∙ eq-eqb (role_of b.slots j) producer (sym s.0 ∙ r) in
        rw (kind, eq-eqb (event_of b.slots j) (event_of b.slots i) (sym s.1))
    go false l rest h = ap (λ (t : Bool). says ProducerIdentified (event_of b.slots i) (identified b j) || t) (rest h) ∙ or-true (says ProducerIdentified (event_of b.slots i) (identified b j))

-- ---- the invariant

-- Each Advertised producer slot outside the automatic block has been identified since the last restart.
pub record Holds (start b : Board) (h : List Done) : Type 0 where
  pub automatic : b.node.automatic ≡ start.node.automatic
  pub fit : (i : ℕ) → event_of b.slots i < 2 ^ 64
  pub identified : (i : ℕ) → role_of b.slots i ≡ producer → mark_of b.slots i ≡ advertised → in_block start.node.automatic (event_of b.slots i) ≡ false
      → IdentifiedSince (event_of b.slots i) h

-- What was identified stays so, unless the node was restarted.
later : (h : List Done) (d : Done) (e : ℕ) → restarts d ≡ false → IdentifiedSince e h → IdentifiedSince e (h ++ (d ∷ []))
unfolding IdentifiedSince
later h d e n s = since_old _ _ h d s (λ t. true≢false (sym t ∙ n))

now_identified : (h : List Done) (d : Done) (e : ℕ) → wrote ProducerIdentified e d ≡ true → IdentifiedSince e (h ++ (d ∷ []))
unfolding IdentifiedSince
now_identified h d e w = since_new _ _ h d w

not_restarted : (d : Done) → is_initialise d.call ≡ false → restarts d ≡ false
not_restarted d f = rw f

module _ (start : Board) where
  holds_start : New start → Holds start start []
  holds_start n = record {
    automatic = refl;
    fit = n.fit;
    identified = λ i r m o. absurd (omega (arith, sym (n.unmarked i) ∙ m));
  }

  module _ (b : Board) (c : Made) (h : List Done) (p : Holds start b h) where
    -- The marks stay, and so does what they stand on, unless the node was restarted.
    holds_kept : (d : Done) → restarts d ≡ false → Holds start b (h ++ (d ∷ []))
    holds_kept d n = record {
      automatic = p.automatic;
      fit = p.fit;
      identified = λ i r m o. later h d (event_of b.slots i) n (p.identified i r m o);
    }

    holds_next : {o : Outcome} → Happened b c.call o → Holds start o.next (h ++ (done_by c o ∷ []))
    holds_next (refused n z) = holds_kept (done_by c (refusing b n)) (rw (ne_eqb n 0 z) (and-false (is_initialise c.call)))
    holds_next (restarting i g) = record {
      automatic = p.automatic;
      fit = p.fit;
      identified = λ i r m o. absurd (outside i (each_there _ _ 0 advertised i (λ z. omega (arith, z)) m) o);
    }
      where
        outside : (i : ℕ) → cond (in_block b.node.automatic (event_of b.slots i)) advertised unadvertised ≡ advertised
            → in_block start.node.automatic (event_of b.slots i) ≡ false → ⊥
        outside i m o =
            let clear = ap (λ (t : Bool). cond t advertised unadvertised) (ap (λ (a : Block). in_block a (event_of b.slots i)) p.automatic ∙ o) in
            omega (arith, sym clear ∙ m)
    holds_next (identifies js matches f g s) = record {
      automatic = p.automatic;
      fit = λ i. subst (λ (es : List ℕ). get_or es i 0 < 2 ^ 64) (sym k.events) (p.fit i);
      identified = λ i r m o.
          subst (λ (e : ℕ). IdentifiedSince e (h ++ (d ∷ []))) (sym (event i))
          (⊎_elim (λ old. later h d (event_of b.slots i) (not_restarted d f) (p.identified i (role i r) old (ap (in_block start.node.automatic) (sym (event i)) ∙ o)))
          (λ new. now_identified h d (event_of b.slots i) (ap (any (says ProducerIdentified (event_of b.slots i))) (sent_read b c p.fit (identifies js matches f g s)) ∙ producer_said b js i (role i r) new))
          (advertising_marks js b.slots i m));
    }
      where
        d : Done
        d = done_by c (accepting (identifying b js) matches (identifying_all b js))

        k : Kept b.slots (advertising b.slots js)
        k = advertising_keeps js b.slots

        role : (i : ℕ) → role_of (advertising b.slots js) i ≡ producer → role_of b.slots i ≡ producer
        role i r = ap (λ (l : List ℕ). get_or l i 0) (sym k.roles) ∙ r

        event : (i : ℕ) → event_of (advertising b.slots js) i ≡ event_of b.slots i
        event i = ap (λ (l : List ℕ). get_or l i 0) k.events
    holds_next (reports i f g s r m) = let d = done_by c (accepting (report b i ∷ []) no_match b) in holds_kept d (not_restarted d f)
    holds_next (sets i status f l) =
        let d = done_by c (accepting [] no_match (with_status b i status)) in
        let k = holds_kept d (not_restarted d f) in
        record { automatic = k.automatic; fit = k.fit; identified = k.identified }

  pub holds_always : New start → (cs : List Made) → Holds start (after start cs) (log start cs)
  holds_always n =
      by_end (λ cs. Holds start (after start cs) (log start cs)) (holds_start n)
      (λ cs c p.
      let b = after start cs in
      subst (λ (x : Board). Holds start x (log start (cs ++ (c ∷ [])))) (sym (after_end start cs c))
      (subst (Holds start (given_by b c).next) (sym (log_end start cs c)) (holds_next b c (log start cs) p (made b c))))

-- ---- the theorems

-- Only an Advertised producer slot is reported.
module _ (start : Board) (e : ℕ) (outside : in_block start.node.automatic e ≡ false) where
  report_identified : {b : Board} {c : Call} {l : List Done} {o : Outcome} → Holds start b l → Happened b c o → any (says EventReport e) o.sent ≡ true
      → IdentifiedSince e l
  unfolding meaning_of
  report_identified p (refused n z) w = absurd (false≢true w)
  report_identified p (restarting i g) w = absurd (false≢true w)
  report_identified {b = b} p (identifies js matches f g s) w = absurd (false≢true (sym (no_report_lem b js e) ∙ w))
  report_identified {b = b} {l = l} p (reports i f g s r m) w =
      let same : event_of b.slots i ≡ e = eqb-true (event_of b.slots i) e (sym (or-false _) ∙ w) in
      subst (λ (x : ℕ). IdentifiedSince x l) same (p.identified i r m (ap (in_block start.node.automatic) same ∙ outside))
  report_identified p (sets i status f l) w = absurd (false≢true w)

-- A report that a call writes, after any calls on a new node, for an event outside the automatic block, was identified since the last restart.
pub reports_identified : (start : Board) → New start → (before : List Made) (c : Made) (e : ℕ) → in_block start.node.automatic e ≡ false
    → wrote EventReport e (done (after start before) c) ≡ true → IdentifiedSince e (log start before)
reports_identified start n before c e outside w =
    let b = after start before in
    let p = holds_always start n before in
    report_identified start e outside p (made b c) (ap (any (says EventReport e)) (sym (written_read b c p.fit)) ∙ w)

-- While a node is not Initialized, it writes no message but Initialization Complete.
module _ (b : Board) (quiet : eqb b.node.state initialized ≡ false) where
  complete_only : {c : Call} {o : Outcome} → Happened b c o → any (λ m. not (is_restart (kind_of m.mti))) o.sent ≡ false
  unfolding meaning_of
  complete_only (refused n z) = refl
  complete_only (restarting i g) = refl
  complete_only (identifies js matches f g s) = ap (λ (l : List ℕ). any (λ m. not (is_restart (kind_of m.mti))) (identifying b l)) (s quiet)
  complete_only (reports i f g s r m) = absurd (true≢false (sym s ∙ quiet))
  complete_only (sets i status f l) = refl

  pub only_complete : ((i : ℕ) → event_of b.slots i < 2 ^ 64) → (c : Made) → any (λ m. not (is_restart (kind_of m.mti))) (messages_in (done b c).bytes) ≡ false
  only_complete fit c = ap (any _) (written_read b c fit) ∙ complete_only (made b c)
