-- The legs and the entries that are done, and the lines that are still to be put in.
use Rattle.std.proofs.Common.{◌≡◌, ℕ, zero, suc, ◌+◌, ◌-◌, Bool, cond, ◌||◌, Some, None, List, [], ◌++◌, sym, refl, ap, ◌∙◌, ap₂, add-one, arith, append_assoc, append-nil}
use Rattle.text.specs.declared.Page.{Page}
use Rattle.text.specs.Text.{wrote}
use Rattle.text.proofs.Laws.{wrote_next}
use Rattle.gateway_rules.specs.declared.Reason.{Reason}
use Rattle.gateway_rules.specs.State.{Gate}
use Rattle.gateway_rules.specs.Step.{step}
use Rattle.gateway_rules.specs.Reasons.{reason_for}
use Rattle.replay.specs.declared.entries.Entry.{Entry}
use Rattle.replay.specs.declared.entries.Entries.{Entries}
use Rattle.replay.specs.Entries.{GivesEntry}
use Rattle.replay.specs.Files.{entry_count, port_in, body_in}
use Rattle.replay.specs.Lines.{step_at}
use Rattle.explanation.specs.Words.{leg_line, leg_lines, entry_lines, accepted_report, no_report, lines_from, lines_of}

-- ---- the legs of an entry

leg_lines_more : (n p i : ℕ) (g : Gate) (q e : ℕ) → leg_lines (suc n) p i g q e ≡ leg_lines n p i g q e ++ leg_line i e (p + n) (reason_for g q e (p + n))
unfolding leg_lines
leg_lines_more zero p i g q e =
    let here : p ≡ p + 0 = omega arith in
    append-nil (leg_line i e p (reason_for g q e p)) ∙ ap (λ (k : ℕ). leg_line i e k (reason_for g q e k)) here
leg_lines_more (suc n) p i g q e =
    let there : suc p + n ≡ p + suc n = omega arith in
    ap (λ (l : List ℕ). leg_line i e p (reason_for g q e p) ++ l) (leg_lines_more n (suc p) i g q e)
    ∙ sym (append_assoc (leg_line i e p (reason_for g q e p)) (leg_lines n (suc p) i g q e) (leg_line i e (suc p + n) (reason_for g q e (suc p + n))))
    ∙ ap (λ (k : ℕ). leg_lines (suc n) p i g q e ++ leg_line i e k (reason_for g q e k)) there

module _ (i : ℕ) (g : Gate) (q e : ℕ) where
  pub legs_none : (p : Page) → p ≡ wrote p [] → p ≡ wrote p (leg_lines 0 0 i g q e)
  unfolding leg_lines
  legs_none p h = h

  pub legs_not : (first : Page) (leg : ℕ) {p : Page} → leg ≡ 0 → p ≡ wrote first (leg_lines leg 0 i g q e) → p ≡ wrote first []
  unfolding leg_lines
  legs_not first leg z f = f ∙ ap (λ (n : ℕ). wrote first (leg_lines n 0 i g q e)) z

  -- The line of one leg more.
  pub legs_next : (first : Page) (leg : ℕ) {p p' : Page} {event : ℕ} {reason : Reason} → p ≡ wrote first (leg_lines leg 0 i g q e)
      → event ≡ e → reason ≡ reason_for g q e leg → p' ≡ wrote p (leg_line i event leg reason) → p' ≡ wrote first (leg_lines (leg + 1) 0 i g q e)
  legs_next first leg f ee er f' =
      let here : 0 + leg ≡ leg = omega arith in
      let line = ap₂ (λ (n : ℕ) (x : Reason). leg_line i n leg x) ee er ∙ ap (λ (k : ℕ). leg_line i e k (reason_for g q e k)) (sym here) in
      f'
      ∙ ap₂ (λ (x : Page) (l : List ℕ). wrote x l) f line
      ∙ wrote_next first (leg_lines leg 0 i g q e) (leg_line i e (0 + leg) (reason_for g q e (0 + leg)))
      ∙ ap (wrote first) (sym (leg_lines_more leg 0 i g q e) ∙ ap (λ (n : ℕ). leg_lines n 0 i g q e) (sym (add-one leg)))

-- ---- the entries

lines_next : (n i : ℕ) (t : Bool) (g : Gate) (s : List ℕ)
    → lines_from (suc n) i t g s ≡ entry_lines i g (port_in s i) (body_in s i) ++ lines_from n (suc i) (t || accepted_report g (port_in s i) (body_in s i)) (step_at g s i).next s
unfolding lines_from
lines_next n i t g s = refl

lines_end : (i : ℕ) (t : Bool) (g : Gate) (s : List ℕ) → lines_from 0 i t g s ≡ cond t [] no_report
unfolding lines_from
lines_end i t g s = refl

module _ (reported : Bool) (g : Gate) (e after : Entries) where
  pub lines_none : GivesEntry e None after → lines_of reported g e ≡ cond reported [] no_report
  lines_none h =
      let none : entry_count e.file.now - e.index ≡ 0 = omega (arith, h) in
      ap (λ (n : ℕ). lines_from n e.index reported g e.file.now) none ∙ lines_end e.index reported g e.file.now

  -- The first of them are the entry's, whom the box then takes.
  pub lines_some : (entry : Entry) (g' : Gate) (reported' : Bool) → GivesEntry e (Some entry) after
      → reported' ≡ (reported || accepted_report g entry.port entry.body.now) → g' ≡ (step g entry.port entry.body.now).next
      → lines_of reported g e ≡ entry_lines entry.index g entry.port entry.body.now ++ lines_of reported' g' after
  lines_some entry g' reported' h t f =
      let file = e.file.now in
      let left : entry_count file - e.index ≡ suc (entry_count after.file.now - after.index) = omega (arith, h.0, h.5, ap entry_count h.4) in
      let lines = ap₂ (λ (q : ℕ) (s : List ℕ). entry_lines e.index g q s) (sym h.2) (sym h.3) ∙ ap (λ (i : ℕ). entry_lines i g entry.port entry.body.now) (sym h.1) in
      let told = ap₂ (λ (q : ℕ) (s : List ℕ). reported || accepted_report g q s) (sym h.2) (sym h.3) ∙ sym t in
      let next = ap₂ (λ (q : ℕ) (s : List ℕ). (step g q s).next) (sym h.2) (sym h.3) ∙ sym f in
      ap (λ (n : ℕ). lines_from n e.index reported g file) left
      ∙ lines_next (entry_count after.file.now - after.index) e.index reported g file
      ∙ λ z. lines z ++ lines_from (entry_count after.file.now - after.index) (sym (h.5 ∙ add-one e.index) z) (told z) (next z) (sym h.4 z)
