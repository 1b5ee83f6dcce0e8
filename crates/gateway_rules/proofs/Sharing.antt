-- G5, sharing: what a port is answered depends on what the announcements at that port and the restarts at all ports say, on the port count and the automatic block, and on nothing else, while no port opens.
use Prim.Native.Nat.{ℕ, ◌<◌}
use mathlib.Core.Path.{◌≡◌, refl, sym, ap, ap₂, ◌∙◌, subst}
use mathlib.Core.Logic.{◌⊎◌, ◌↔◌, inl, inr, ⊎_elim}
use mathlib.Core.Bool.{Bool, true, false, cond, not, true≢false, false≢true}
use mathlib.Core.List.{List, [], ◌∷◌, ◌++◌, append-nil, map, map-append}
use borrow.Author.Tests.{eq-eqb, eqb-true}
use lib.Dec.{eqb}
use Rattle.range.specs.declared.Block.{Block}
use Rattle.range.specs.Range.{block_of}
use Rattle.basics.specs.Refusals.{first_of, answered}
use Rattle.message.specs.Reading.{message_in}
use Rattle.gateway_rules.specs.State.{Gate, start_of}
use Rattle.basics.specs.Lists.{without}
use Rattle.basics.specs.Since.{Since}
use Rattle.message.specs.declared.Saying.{Saying}
use Rattle.message.specs.declared.Saying.TheVariants.{Report, Announcement, Restart, Inquiry, InquiryForAll, Learn, Nothing}
use Rattle.message.specs.Saying.{said_by}
use Rattle.gateway_rules.specs.Step.{Outcome, step, start_tests, starting, start}
use Rattle.gateway_rules.specs.History.{Entry, after, Heard, heard_of, accepted, Announces, Restarts, Live, Opened, Reports, HeldBack, touches, concerns, Word, word_of, concerning}
use Rattle.basics.proofs.Lists.{without_append}
use Rattle.basics.proofs.Sinces.{by_end, since_none, since_new, since_old, since_end}
use Rattle.gateway_rules.proofs.Holding.{live_new, live_old, live_end, never_live, true_or_false}
use Rattle.gateway_rules.proofs.Demand3.{start_box, demand_3}
use Rattle.gateway_rules.proofs.Unnested.{always_in_bounds}
use Rattle.gateway_rules.proofs.Accepted.{step_accepts}

-- ---- an announcement and a restart concern the port

concerns_announced : {p n : ℕ} {b : Block} {s : Heard} → Announces p n b s → concerns p s ≡ true
concerns_announced {p} {s = s} a = ap (touches (eqb s.port p)) a.says ∙ eq-eqb s.port p a.here

concerns_restarted : {n : ℕ} {s : Heard} (p : ℕ) → Restarts n s → concerns p s ≡ true
concerns_restarted {s = s} p r = ap (touches (eqb s.port p)) r.says

-- An announcement that concerns a port came in there.
came_in_lem : {b : Block} (p : ℕ) (s : Heard) → concerns p s ≡ true → said_by s.message ≡ Announcement b → s.port ≡ p
came_in_lem p s t e = eqb-true s.port p (sym (ap (touches (eqb s.port p)) e) ∙ t)

-- What sharing compares for p: an announcement that came in there, a restart at any port, and nothing else.
pub concerns_exactly : (p : ℕ) (s : Heard) → (concerns p s ≡ true) ↔ (((n : ℕ) × (b : Block) × Announces p n b s) ⊎ ((n : ℕ) × Restarts n s))
concerns_exactly p s = (λ t. by_saying (said_by s.message) refl t, ⊎_elim (λ a. concerns_announced a.2) (λ r. concerns_restarted p r.1))
  where
    other : {w : Saying} → said_by s.message ≡ w → touches (eqb s.port p) w ≡ false → concerns p s ≡ true → ⊥
    other e f t = false≢true (sym f ∙ sym (ap (touches (eqb s.port p)) e) ∙ t)

    by_saying : (w : Saying) → said_by s.message ≡ w → concerns p s ≡ true → ((n : ℕ) × (b : Block) × Announces p n b s) ⊎ ((n : ℕ) × Restarts n s)
    by_saying (Announcement b) e t = inl (s.message.source, b, record { here = came_in_lem p s t e; sender = refl; says = e })
    by_saying Restart e t = inr (s.message.source, record { node = refl; says = e })
    by_saying (Report x) e t = absurd (other e refl t)
    by_saying (Inquiry role x) e t = absurd (other e refl t)
    by_saying (InquiryForAll to) e t = absurd (other e refl t)
    by_saying (Learn x) e t = absurd (other e refl t)
    by_saying Nothing e t = absurd (other e refl t)

-- ---- live by words alone

pub record Says (n : ℕ) (what : Saying) (w : Word) : Type 0 where
  pub sender : w.source ≡ n
  pub says : w.saying ≡ what

LiveBy : List Word → ℕ → Block → Type 0
LiveBy ws n b = Since (λ _ w. Says n (Announcement b) w) (Says n Restart) ws

announces_word : {p n : ℕ} {b : Block} {s : Heard} → Announces p n b s → Says n (Announcement b) (word_of s)
announces_word a = record { sender = a.sender; says = a.says }

-- ---- one message later

concerning_kept : (p : ℕ) (h : List Heard) (s : Heard) → concerns p s ≡ true → concerning p (h ++ (s ∷ [])) ≡ concerning p h ++ (word_of s ∷ [])
unfolding concerning
concerning_kept p h s e =
    ap (map word_of) (without_append (λ x. not (concerns p x)) h (s ∷ []) ∙ ap (λ (t : Bool). without (λ x. not (concerns p x)) h ++ cond (not t) [] (s ∷ [])) e)
    ∙ map-append word_of (without (λ x. not (concerns p x)) h) (s ∷ [])

concerning_left : (p : ℕ) (h : List Heard) (s : Heard) → concerns p s ≡ false → concerning p (h ++ (s ∷ [])) ≡ concerning p h
unfolding concerning
concerning_left p h s e =
    ap (map word_of) (
    without_append (λ x. not (concerns p x)) h (s ∷ [])
    ∙ ap (λ (t : Bool). without (λ x. not (concerns p x)) h ++ cond (not t) [] (s ∷ [])) e
    ∙ append-nil (without (λ x. not (concerns p x)) h)
    )

module _ (p n : ℕ) (b : Block) where
  live_there : (h : List Heard) → Live h p n b → LiveBy (concerning p h) n b
  unfolding concerning LiveBy
  live_there = by_end (λ (h : List Heard). Live h p n b → LiveBy (concerning p h) n b) (λ l. absurd (never_live p n b l)) step
    where
      step : (h : List Heard) (s : Heard) → (Live h p n b → LiveBy (concerning p h) n b) → Live (h ++ (s ∷ [])) p n b → LiveBy (concerning p (h ++ (s ∷ []))) n b
      step h s rest l = ⊎_elim
          (λ t.
          subst (λ (ws : List Word). LiveBy ws n b) (sym (concerning_kept p h s t))
          (⊎_elim
          (λ a. since_new (λ _ w. Says n (Announcement b) w) (Says n Restart) (concerning p h) (word_of s) (announces_word a))
          (λ k. since_old (λ _ w. Says n (Announcement b) w) (Says n Restart) (concerning p h) (word_of s) (rest k.0)
          (λ r. k.1 (record { node = r.sender; says = r.says })))
          (live_end p n b h s l)))
          (λ t.
          subst (λ (ws : List Word). LiveBy ws n b) (sym (concerning_left p h s t))
          (⊎_elim (λ a. absurd (true≢false (sym (concerns_announced a) ∙ t))) (λ k. rest k.0) (live_end p n b h s l)))
          (true_or_false (concerns p s))

  live_back : (h : List Heard) → LiveBy (concerning p h) n b → Live h p n b
  unfolding concerning LiveBy
  live_back = by_end (λ (h : List Heard). LiveBy (concerning p h) n b → Live h p n b) (λ l. absurd (since_none (λ _ w. Says n (Announcement b) w) (Says n Restart) l)) step
    where
      step : (h : List Heard) (s : Heard) → (LiveBy (concerning p h) n b → Live h p n b) → LiveBy (concerning p (h ++ (s ∷ []))) n b → Live (h ++ (s ∷ [])) p n b
      step h s rest l = ⊎_elim
          (λ t.
          ⊎_elim
          (λ a. live_new p n b h s (record { here = came_in_lem p s t a.says; sender = a.sender; says = a.says }))
          (λ k. live_old p n b h s (rest k.0) (λ r. k.1 (record { sender = r.node; says = r.says })))
          (since_end (λ _ w. Says n (Announcement b) w) (Says n Restart) (concerning p h) (word_of s)
          (subst (λ (ws : List Word). LiveBy ws n b) (concerning_kept p h s t) l)))
          (λ t.
          live_old p n b h s (rest (subst (λ (ws : List Word). LiveBy ws n b) (concerning_left p h s t) l)) (λ r. true≢false (sym (concerns_restarted p r) ∙ t)))
          (true_or_false (concerns p s))

-- ---- sharing

same_falsity : (x y : Bool) → (x ≡ false → y ≡ false) → (y ≡ false → x ≡ false) → x ≡ y
same_falsity true true f g = refl
same_falsity true false f g = g refl
same_falsity false y f g = sym (f refl)

held_shared : (g : Gate) (h k : List Heard) (p e : ℕ) → ((q : ℕ) → Opened g k q → ⊥) → concerning p h ≡ concerning p k → HeldBack g h p e → HeldBack g k p e
held_shared g h k p e closed same w = record {
  not_automatic = w.not_automatic;
  not_live = λ n b l. w.not_live n b (live_back p n b h (subst (λ (ws : List Word). LiveBy ws n b) (sym same) (live_there p n b k l)));
  not_opened = closed p;
}

-- Starts with the same automatic block are the same.
same_start : (ports r r' : ℕ) → block_of r ≡ block_of r' → start ports r ≡ start ports r'
unfolding start
same_start ports r r' e =
    let begun : (n : ℕ) → start_of n r ≡ start_of n r' = λ n i. record { ports = n; automatic = e i; lines = []; marked = λ _. false } in
    ap₂ (λ (none some : Gate). answered (starting 0) (λ n. starting n none) (first_of (start_tests ports)) some) (begun 0) (begun ports)

-- What is accepted after one history is accepted after every other.
accepted_again : (ports r : ℕ) → (start ports r).refusal ≡ 0 → (h k : List Entry) (q : ℕ) (bytes : List ℕ)
    → (step (after (start ports r).next h) q bytes).refusal ≡ 0 → (step (after (start ports r).next k) q bytes).refusal ≡ 0
accepted_again ports r s h k q bytes a =
    let e : Entry = record { port = q; bytes = bytes } in
    let one = step_accepts (after (start ports r).next h) e (always_in_bounds ports r s h).0 in
    let two = step_accepts (after (start ports r).next k) e (always_in_bounds ports r s k).0 in
    two.0.1 (ap (λ (n : ℕ). heard_of n e) (start_box ports r s k ∙ sym (start_box ports r s h)) ∙ one.0.0 a)

shared : (ports r : ℕ) → (start ports r).refusal ≡ 0 → (h k : List Entry)
    → ((q : ℕ) → Opened (start ports r).next (accepted ports h) q → ⊥)
    → ((q : ℕ) → Opened (start ports r).next (accepted ports k) q → ⊥)
    → (p : ℕ) → concerning p (accepted ports h) ≡ concerning p (accepted ports k)
    → (q : ℕ) (bytes : List ℕ) (e : ℕ) → Reports e (message_in bytes) → p < ports → (p ≡ q → ⊥)
    → (step (after (start ports r).next h) q bytes).refusal ≡ 0
    → (step (after (start ports r).next h) q bytes).to p ≡ (step (after (start ports r).next k) q bytes).to p
shared ports r s h k closed-h closed-k p same q bytes e m l n a =
    let one = demand_3 ports r s h q bytes a e m p l n in
    let two = demand_3 ports r s k q bytes (accepted_again ports r s h k q bytes a) e m p l n in
    let g = (start ports r).next in
    same_falsity _ _
    (λ t. two.1 (held_shared g (accepted ports h) (accepted ports k) p e closed-k same (one.0 t)))
    (λ t. one.1 (held_shared g (accepted ports k) (accepted ports h) p e closed-h (sym same) (two.0 t)))

-- Two histories with the same port count and automatic block, in neither of which any port opens: if the accepted announcements at p and
-- the restarts of all ports say the same in the same order, a report that is accepted at another port
-- after the one is accepted there after the other, and gets the same answer for p.
pub sharing : (ports r r' : ℕ) → block_of r ≡ block_of r' → (start ports r).refusal ≡ 0 → (h k : List Entry)
    → ((q : ℕ) → Opened (start ports r).next (accepted ports h) q → ⊥)
    → ((q : ℕ) → Opened (start ports r').next (accepted ports k) q → ⊥)
    → (p : ℕ) → concerning p (accepted ports h) ≡ concerning p (accepted ports k)
    → (q : ℕ) (bytes : List ℕ) (e : ℕ) → Reports e (message_in bytes) → p < ports → (p ≡ q → ⊥)
    → (step (after (start ports r).next h) q bytes).refusal ≡ 0
    → ((step (after (start ports r').next k) q bytes).refusal ≡ 0)
    × ((step (after (start ports r).next h) q bytes).to p ≡ (step (after (start ports r').next k) q bytes).to p)
sharing ports r r' block s h k closed-h closed-k p same q bytes e m l n a =
    let begun : (start ports r').next ≡ (start ports r).next = ap (λ (o : Outcome). o.next) (sym (same_start ports r r' block)) in (
      subst (λ (g : Gate). (step (after g k) q bytes).refusal ≡ 0) (sym begun) (accepted_again ports r s h k q bytes a),
      shared ports r s h k closed-h (subst (λ (g : Gate). (x : ℕ) → Opened g (accepted ports k) x → ⊥) begun closed-k) p same q bytes e m l n a
          ∙ ap (λ (g : Gate). (step (after g k) q bytes).to p) (sym begun),
    )
