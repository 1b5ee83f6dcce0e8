-- What the table and the open marks say of the accepted messages, over every history.
use Prim.Native.Nat.{ℕ, ◌≤◌, ◌<◌, zero-le}
use native.Mathlib.Nat.{le_trans, le_antisymm}
use mathlib.Core.Path.{◌≡◌, refl, sym, ap, ◌∙◌, subst}
use mathlib.Core.Logic.{◌⊎◌, inl, inr, ⊎_elim}
use mathlib.Core.Bool.{Bool, true, false, ◌||◌, or-true, true≢false, false≢true}
use mathlib.Core.List.{List, [], ◌∷◌, ◌++◌}
use native.Mathlib.Omega.{arith}
use borrow.Author.Tests.{eqb-true, eq-eqb}
use lib.Dec.{eqb}
use lib.ListN.{length, length-append}
use Rattle.range.specs.declared.Block.{Block}
use Rattle.basics.specs.Lists.{Among, without}
use Rattle.basics.proofs.Lists.{any_append, fewer_without}
use Rattle.basics.proofs.Among.{among_end, among_without, any_replaced}
use Rattle.message.specs.declared.Saying.{Saying}
use Rattle.message.specs.declared.Saying.TheVariants.{Announcement, Restart}
use Rattle.message.specs.Saying.{said_by}
use Rattle.gateway_rules.specs.declared.Line.{Line}
use Rattle.gateway_rules.specs.State.{Gate, full}
use Rattle.gateway_rules.specs.Step.{line, within, held_by, covered, holds_some, with_lines, hear}
use Rattle.gateway_rules.specs.History.{Heard, changing, Announces, Restarts, Ends, Live, left_by, Overflows, Opened, Holds}
use Rattle.gateway_rules.proofs.Within.{within_more, covered_last}
use Rattle.basics.proofs.Sinces.{by_end, since_none, since_new, since_old, since_end}
use Rattle.gateway_rules.proofs.Changes.{New, Change, change_of, restart_leaves, restart_covers, restart_few, left_end}
use Rattle.gateway_rules.proofs.Changes.Change.{restarted, covered_already, replaced, added, opened, passed}

-- ---- live and opened, one message later

module _ (p n : ℕ) (b : Block) (h : List Heard) (s : Heard) where
  pub live_new : Announces p n b s → Live (h ++ (s ∷ [])) p n b
  unfolding Live
  live_new a = since_new (λ _ x. Announces p n b x) (Ends p n) h s a

  pub live_old : Live h p n b → (Ends p n s → ⊥) → Live (h ++ (s ∷ [])) p n b
  unfolding Live
  live_old l r = since_old (λ _ x. Announces p n b x) (Ends p n) h s l r

  pub live_end : Live (h ++ (s ∷ [])) p n b → Announces p n b s ⊎ (Live h p n b × (Ends p n s → ⊥))
  unfolding Live
  live_end l = since_end (λ _ x. Announces p n b x) (Ends p n) h s l

pub never_live : (p n : ℕ) (b : Block) → Live [] p n b → ⊥
unfolding Live
never_live p n b l = since_none (λ _ x. Announces p n b x) (Ends p n) l

module _ (g : Gate) (p : ℕ) (h : List Heard) (s : Heard) where
  pub opened_new : Overflows g p h s → Opened g (h ++ (s ∷ [])) p
  unfolding Opened
  opened_new o = since_new (Overflows g p) (λ _. ⊥) h s o

  pub opened_old : Opened g h p → Opened g (h ++ (s ∷ [])) p
  unfolding Opened
  opened_old o = since_old (Overflows g p) (λ _. ⊥) h s o (λ z. z)

  pub opened_end : Opened g (h ++ (s ∷ [])) p → Overflows g p h s ⊎ Opened g h p
  unfolding Opened
  opened_end o = ⊎_elim inl (λ w. inr w.0) (since_end (Overflows g p) (λ _. ⊥) h s o)

pub never_opened : (g : Gate) (p : ℕ) → Opened g [] p → ⊥
unfolding Opened
never_opened g p o = since_none (Overflows g p) (λ _. ⊥) o

-- ---- what a message can not be at once

not_both : (s : Saying) (b : Block) → s ≡ Restart → s ≡ Announcement b → ⊥
not_both s b e f = let z : ◌≡◌ {A = ℕ} 0 1 = cc in omega arith

pub no_restart : {n : ℕ} {s : Heard} (b : Block) → said_by s.message ≡ Announcement b → Restarts n s → ⊥
no_restart {s = s} b e r = not_both (said_by s.message) b r.says e

-- The line of an announcement.
announced_line : {p n : ℕ} {b b' : Block} {s : Heard} → Announces p n b s → said_by s.message ≡ Announcement b' → line p n b ≡ line s.port s.message.source b'
announced_line {b = b} {b' = b'} {s = s} a e =
    let block : b ≡ b' = announced_once b b' (sym a.says ∙ e) in
    λ i. record { port = sym a.here i; node = sym a.sender i; block = block i }
  where
    announced_once : (x y : Block) → Announcement x ≡ Announcement y → x ≡ y
    announced_once x y p = cc

-- ---- one message later

pub true_or_false : (t : Bool) → (t ≡ true) ⊎ (t ≡ false)
true_or_false true = inl refl
true_or_false false = inr refl

pub either_true : (p q : Bool) → (p || q) ≡ true → (p ≡ true) ⊎ (q ≡ true)
either_true true q e = inl refl
either_true false q e = inr e

module _ (start : Gate) (h : List Heard) (s : Heard) (i : Holds start (left_by start h) h) where
  abbrev g : Gate
  g = left_by start h

  abbrev h' : List Heard
  h' = h ++ (s ∷ [])

  -- The line of what the message announces.
  abbrev announced : Block → Line
  announced b = line s.port s.message.source b

  -- Where the lines stay, those of before stay live, and no new one is needed.
  still_live : ((l : Line) → Ends l.port l.node s → ⊥) → (l : Line) → Among l g.lines → Live h' l.port l.node l.block
  still_live stays l there = live_old l.port l.node l.block h s (i.lines_live l there) (stays l)

  still_there : (lines : List Line) → ((l : Line) → covered g.lines l ≡ true → (Ends l.port l.node s → ⊥) → covered lines l ≡ true)
      → ((p n : ℕ) (b : Block) → Announces p n b s → (covered lines (line p n b) ≡ true) ⊎ Opened start h' p)
      → (p n : ℕ) (b : Block) → Live h' p n b → (covered lines (line p n b) ≡ true) ⊎ Opened start h' p
  still_there lines stays new p n b l =
      ⊎_elim (new p n b)
      (λ w. ⊎_elim (λ t. inl (stays (line p n b) t w.1)) (λ o. inr (opened_old start p h s o)) (i.live_lines p n b w.0))
      (live_end p n b h s l)

  still_opened : (p : ℕ) → g.marked p ≡ true → Opened start h' p
  still_opened p t = opened_old start p h s (i.marks_opened p t)

  still_marked : ((p : ℕ) → Overflows start p h s → ⊥) → (p : ℕ) → Opened start h' p → g.marked p ≡ true
  still_marked none p o = ⊎_elim (λ v. absurd (none p v)) (i.opened_marks p) (opened_end start p h s o)

  -- An announcement overflows only where it is new.
  overflow_new : (b : Block) → said_by s.message ≡ Announcement b → (p : ℕ) → Overflows start p h s → New g (announced b)
  overflow_new b e p v = record {
    not_inside = sym (ap (covered g.lines) (announced_line v.announces e)) ∙ v.not_inside;
    holds_none = sym (ap (holds_some g.lines) (announced_line v.announces e)) ∙ v.holds_none;
  }

  -- One line more, behind lines that were there, where what was inside a line still is.
  stored : (b : Block) → said_by s.message ≡ Announcement b → (rest : List Line) → ((l : Line) → Among l rest → Among l g.lines)
      → ((l : Line) → covered g.lines l ≡ true → covered (rest ++ (announced b ∷ [])) l ≡ true) → length rest < full → ((p : ℕ) → Overflows start p h s → ⊥)
      → Holds start (with_lines g (rest ++ (announced b ∷ []))) h'
  stored b e rest there stays room none = record {
    live_lines = still_there (rest ++ (announced b ∷ [])) (λ l t _. stays l t)
        (λ p n b' a. inl (ap (covered (rest ++ (announced b ∷ []))) (announced_line a e) ∙ covered_last rest (announced b)));
    lines_live = λ l t.
        ⊎_elim (λ u. still_live (λ _. no_restart b e) l (there l u))
        (λ same.
        subst (λ (x : Line). Live h' x.port x.node x.block) (sym same)
        (live_new s.port s.message.source b h s (record { here = refl; sender = refl; says = e })))
        (among_end rest (announced b) l t);
    opened_marks = still_marked none;
    marks_opened = still_opened;
    few = omega (arith, length-append rest (announced b ∷ []), room);
  }

  holds_step : {g' : Gate} → Change g s.port s.message g' → Holds start g' h'
  holds_step (restarted e) = record {
    live_lines = still_there (hear g s.port s.message.source Restart).lines
        (λ l t stays. restart_covers g s.port s.message.source l (λ f. stays (record { node = sym f; says = e })) t)
        (λ p n b a. absurd (not_both (said_by s.message) b e a.says));
    lines_live = λ l t.
        let k = (restart_leaves g s.port s.message.source l).0 t in
        live_old l.port l.node l.block h s (i.lines_live l k.0)
        (λ r. true≢false (sym (eq-eqb l.node s.message.source (sym r.node)) ∙ k.1));
    opened_marks = still_marked (λ p v. not_both (said_by s.message) v.block e v.announces.says);
    marks_opened = still_opened;
    few = le_trans (restart_few g s.port s.message.source) i.few;
  }
  holds_step (covered_already b e t) = record {
    live_lines = still_there g.lines (λ l u _. u) (λ p n b' a. inl (ap (covered g.lines) (announced_line a e) ∙ t));
    lines_live = still_live (λ l. no_restart b e);
    opened_marks = still_marked (λ p v. true≢false (sym t ∙ (overflow_new b e p v).not_inside));
    marks_opened = still_opened;
    few = i.few;
  }
  holds_step (replaced b e f t) =
      stored b e (without (held_by (announced b)) g.lines) (λ l u. (among_without (held_by (announced b)) g.lines l u).0)
      (λ l u. any_replaced (within l) (held_by (announced b)) g.lines (announced b) (λ x w o. within_more l x (announced b) w o) u)
      (le_trans (fewer_without (held_by (announced b)) g.lines t) i.few)
      (λ p v. true≢false (sym t ∙ (overflow_new b e p v).holds_none))
  holds_step (added b e n room) =
      stored b e g.lines (λ l u. u)
      (λ l u. any_append (within l) g.lines (announced b ∷ []) ∙ ap (λ (x : Bool). x || covered (announced b ∷ []) l) u)
      room
      (λ p v. omega (arith, v.met, room))
  holds_step (opened b e n most) = record {
    live_lines = still_there g.lines (λ l u _. u) (λ p n b' a. inr (subst (Opened start h') a.here overflow));
    lines_live = still_live (λ l. no_restart b e);
    opened_marks = λ p o.
        ⊎_elim (λ v. ap (λ (x : Bool). x || g.marked p) (eq-eqb p s.port (sym v.announces.here)))
        (λ u. ap (λ (x : Bool). eqb p s.port || x) (i.opened_marks p u) ∙ or-true (eqb p s.port))
        (opened_end start p h s o);
    marks_opened = λ p t. ⊎_elim (λ u. subst (Opened start h') (sym (eqb-true p s.port u)) overflow) (still_opened p) (either_true (eqb p s.port) (g.marked p) t);
    few = i.few;
  }
    where
      overflow : Opened start h' s.port
      overflow = opened_new start s.port h s (record {
        node = s.message.source;
        block = b;
        announces = record { here = refl; sender = refl; says = e };
        not_inside = n.not_inside;
        holds_none = n.holds_none;
        met = le_antisymm i.few most;
      })
  holds_step (passed e) = record {
    live_lines = still_there g.lines (λ l u _. u) (λ p n b a. absurd (true≢false (sym (ap changing a.says) ∙ e)));
    lines_live = still_live (λ l r. true≢false (sym (ap changing r.says) ∙ e));
    opened_marks = still_marked (λ p v. true≢false (sym (ap changing v.announces.says) ∙ e));
    marks_opened = still_opened;
    few = i.few;
  }

-- It holds of a state without lines and marks, and after every accepted message.
pub holds_always : (start : Gate) → start.lines ≡ [] → ((p : ℕ) → start.marked p ≡ false) → (h : List Heard) → Holds start (left_by start h) h
holds_always start empty closed = by_end (λ (h : List Heard). Holds start (left_by start h) h) base step
  where
    base : Holds start start []
    base = record {
      live_lines = λ p n b l. absurd (never_live p n b l);
      lines_live = λ l t. absurd (subst (Among l) empty t);
      opened_marks = λ p o. absurd (never_opened start p o);
      marks_opened = λ p t. absurd (false≢true (sym (closed p) ∙ t));
      few = subst (λ (ls : List Line). length ls ≤ full) (sym empty) zero-le;
    }

    step : (h : List Heard) (s : Heard) → Holds start (left_by start h) h → Holds start (left_by start (h ++ (s ∷ []))) (h ++ (s ∷ []))
    step h s i =
        subst (λ (x : Gate). Holds start x (h ++ (s ∷ []))) (sym (left_end start h s))
        (holds_step start h s i (change_of (left_by start h) s.port s.message))
