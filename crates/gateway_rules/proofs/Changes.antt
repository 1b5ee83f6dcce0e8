-- The ways in which an accepted message can change the state: one for each case of the document. What a restart leaves is in `restart_leaves`.
use Prim.Native.Nat.{ℕ, zero, suc, ◌≤◌, ◌<◌}
use mathlib.Core.Path.{◌≡◌, refl, ap, ◌∙◌}
use mathlib.Core.Logic.{◌↔◌}
use mathlib.Core.Bool.{Bool, true, false, cond}
use mathlib.Core.List.{List, [], ◌∷◌, ◌++◌}
use borrow.Author.Tests.{ltb-true, ltb-false, ne_eqb}
use lib.Dec.{ltb}
use lib.ListN.{length}
use Rattle.range.specs.declared.Block.{Block}
use Rattle.message.specs.declared.Message.{Message}
use Rattle.message.specs.declared.Saying.{Saying}
use Rattle.message.specs.declared.Saying.TheVariants.{Report, Announcement, Restart, Inquiry, InquiryForAll, Learn, Nothing}
use Rattle.message.specs.Reading.{message_in}
use Rattle.message.specs.Saying.{said_by}
use Rattle.basics.specs.Refusals.{first_of, answered}
use Rattle.basics.specs.Lists.{Among, without}
use Rattle.basics.proofs.Lists.{length_without}
use Rattle.basics.proofs.Among.{among_without, among_kept, any_stays}
use Rattle.gateway_rules.specs.declared.Line.{Line}
use Rattle.gateway_rules.specs.State.{Gate, full}
use Rattle.gateway_rules.specs.Step.{line, within, covered, holds_some, of_node, with_lines, adding, replacing, opening, storing, announce, hear, taken, taking, refusing, step_tests, step}
use Rattle.gateway_rules.specs.History.{Heard, left_by, changing}
use Rattle.gateway_rules.proofs.Within.{inner}

-- ---- an announcement

pub covered_keeps : (g : Gate) (l : Line) → covered g.lines l ≡ true → announce g l ≡ g
unfolding announce
covered_keeps g l c = rw c

-- Full or not: the open marks stay, as `replacing` has it.
pub holding_replaces : (g : Gate) (l : Line) → covered g.lines l ≡ false → holds_some g.lines l ≡ true → announce g l ≡ replacing g l
unfolding announce
holding_replaces g l c h = rw (c, h)

pub new_stores : (g : Gate) (l : Line) → covered g.lines l ≡ false → holds_some g.lines l ≡ false → announce g l ≡ storing g l
unfolding announce
new_stores g l c h = rw (c, h)

-- ---- the view of the step

-- Neither inside a line of that port and node nor holding one (document 02, W4).
pub record New (g : Gate) (l : Line) : Type 0 where
  pub not_inside : covered g.lines l ≡ false
  pub holds_none : holds_some g.lines l ≡ false

pub data Change (g : Gate) (q : ℕ) (m : Message) : Gate → Type 0 where
  restarted : said_by m ≡ Restart → Change g q m (hear g q m.source Restart)
  covered_already : (b : Block) → said_by m ≡ Announcement b → covered g.lines (line q m.source b) ≡ true → Change g q m g
  replaced : (b : Block) → said_by m ≡ Announcement b → covered g.lines (line q m.source b) ≡ false → holds_some g.lines (line q m.source b) ≡ true
      → Change g q m (with_lines g (without (λ x. within x (line q m.source b)) g.lines ++ (line q m.source b ∷ [])))
  added : (b : Block) → said_by m ≡ Announcement b → New g (line q m.source b) → length g.lines < full → Change g q m (adding g (line q m.source b))
  opened : (b : Block) → said_by m ≡ Announcement b → New g (line q m.source b) → full ≤ length g.lines → Change g q m (opening g q)
  passed : changing (said_by m) ≡ false → Change g q m g

-- Every accepted message changes the state in one of these ways.
pub change_of : (g : Gate) (q : ℕ) (m : Message) → Change g q m (taken g q m)
unfolding taken announce
change_of g q m = by_saying (said_by m) refl
  where
    by_room : (b : Block) → said_by m ≡ Announcement b → New g (line q m.source b) → (t : Bool) → ltb (length g.lines) full ≡ t
        → Change g q m (cond t (adding g (line q m.source b)) (opening g q))
    by_room b e n true f = added b e n (ltb-true (length g.lines) full f)
    by_room b e n false f = opened b e n (ltb-false (length g.lines) full f)

    by_held : (b : Block) → said_by m ≡ Announcement b → covered g.lines (line q m.source b) ≡ false → (t : Bool) → holds_some g.lines (line q m.source b) ≡ t
        → Change g q m (cond t (replacing g (line q m.source b)) (storing g (line q m.source b)))
    by_held b e n true f = replaced b e n f
    by_held b e n false f = by_room b e (record { not_inside = n; holds_none = f }) (ltb (length g.lines) full) refl

    by_line_lem : (b : Block) → said_by m ≡ Announcement b → (t : Bool) → covered g.lines (line q m.source b) ≡ t
        → Change g q m (cond t g (cond (holds_some g.lines (line q m.source b)) (replacing g (line q m.source b)) (storing g (line q m.source b))))
    by_line_lem b e true f = covered_already b e f
    by_line_lem b e false f = by_held b e f (holds_some g.lines (line q m.source b)) refl

    by_saying : (s : Saying) → said_by m ≡ s → Change g q m (hear g q m.source s)
    by_saying (Announcement b) e = by_line_lem b e (covered g.lines (line q m.source b)) refl
    by_saying Restart e = restarted e
    by_saying (Report x) e = passed (ap changing e)
    by_saying (Inquiry role x) e = passed (ap changing e)
    by_saying (InquiryForAll to) e = passed (ap changing e)
    by_saying (Learn x) e = passed (ap changing e)
    by_saying Nothing e = passed (ap changing e)

-- A line is there after a restart exactly where it was there before and is not of the node that restarts.
pub restart_leaves : (g : Gate) (q n : ℕ) (l : Line) → Among l (hear g q n Restart).lines ↔ (Among l g.lines × (of_node n l ≡ false))
restart_leaves g q n l = (among_without (of_node n) g.lines l, λ w. among_kept (of_node n) g.lines l w.0 w.1)

-- What was inside a line still is, but for the node that restarts.
pub restart_covers : (g : Gate) (q n : ℕ) (l : Line) → (l.node ≡ n → ⊥) → covered g.lines l ≡ true → covered (hear g q n Restart).lines l ≡ true
restart_covers g q n l other t =
    any_stays (within l) (of_node n) g.lines (λ x w. ne_eqb x.node n (λ e. other ((inner l x w).node ∙ e))) t

pub restart_few : (g : Gate) (q n : ℕ) → length (hear g q n Restart).lines ≤ length g.lines
restart_few g q n = length_without (of_node n) g.lines

-- A step keeps the state or takes the message: what is true of both is true of what it leaves.
pub by_step : (g : Gate) (q : ℕ) (bytes : List ℕ) (P : Gate → Type 0) → P g → P (taken g q (message_in bytes)) → P (step g q bytes).next
unfolding step
by_step g q bytes P kept took = go (first_of (step_tests g q bytes))
  where
    go : (n : ℕ) → P (answered (taking g q) (refusing g) n (message_in bytes)).next
    go zero = took
    go (suc n) = kept

-- One message more at the end of a history.
pub left_end : (g : Gate) (h : List Heard) (s : Heard) → left_by g (h ++ (s ∷ [])) ≡ taken (left_by g h) s.port s.message
left_end g [] s = refl
left_end g (x ∷ h) s = left_end (taken g x.port x.message) h s
