-- Which ports want what is said: a report outside the automatic block is looked up, an automatic one and all else is wanted everywhere.
use Prim.Native.Nat.{ℕ}
use mathlib.Core.Path.{◌≡◌, refl, sym, ap, ◌∙◌}
use mathlib.Core.Bool.{Bool, true, false, cond, ◌||◌}
use Rattle.range.specs.declared.Block.{Block}
use Rattle.range.specs.Range.{in_block}
use Rattle.basics.specs.Lists.{any}
use Rattle.basics.specs.Sets.{set_of, in_set}
use Rattle.basics.proofs.Sets.{set_ext}
use mathlib.Core.List.{List, [], ◌∷◌}
use denote.Enum.Declared.{tag_of, declared}
use types.Run.{OneOf, miss}
use Rattle.message.specs.contracts.Saying.{enum as sayings}
use Rattle.message.specs.declared.Saying.{Saying}
use Rattle.message.specs.declared.Saying.TheVariants.{Report, Announcement, Restart, Inquiry, InquiryForAll, Learn, Nothing}
use Rattle.gateway_rules.specs.State.{Gate}
use Rattle.gateway_rules.specs.Step.{line_holds, wants, wanted_at}
use Rattle.gateway.specs.declared.state.Head.{Head}
use Rattle.gateway.specs.State.{Lists, line_at, lines_in, gate_in}
use Rattle.gateway.specs.Indexing.{holding_in}
use Rattle.index_rules.proofs.Passing.{any_each}
use Rattle.gateway.specs.Answers.{wanted_by, looked_up_in, wanted_of}
use Rattle.std.specs.Prelude.{Option, None, Some}
use Rattle.gateway_rules.specs.declared.Line.{Line}

every : set_of 8 (λ _. true) ≡ 255
unfolding set_of
every = refl

wanted_everywhere : (g : Gate) (s : Saying) → ((p : ℕ) → wanted_at g p s ≡ true) → 255 ≡ wanted_by g s
wanted_everywhere g s h = sym every ∙ set_ext 8 (λ _. true) (λ p. wanted_at g p s) (λ p _. sym (h p))

-- ---- what is looked up

-- What is no report is not looked up.
pub no_report_lem : (automatic : Block) (s : Saying) → OneOf (1 ∷ 2 ∷ 3 ∷ 4 ∷ 5 ∷ 6 ∷ []) (tag_of (declared sayings) s) → None ≡ looked_up_in automatic s
no_report_lem automatic (Report e) k = absurd (miss (1 ∷ 2 ∷ 3 ∷ 4 ∷ 5 ∷ 6 ∷ []) 0 tt k)
no_report_lem automatic (Announcement b) k = refl
no_report_lem automatic Restart k = refl
no_report_lem automatic (Inquiry role e) k = refl
no_report_lem automatic (InquiryForAll destination) k = refl
no_report_lem automatic (Learn e) k = refl
no_report_lem automatic Nothing k = refl

module _ (automatic : Block) (s : Saying) (e : ℕ) (report : s ≡ Report e) where
  pub automatic_report : in_block automatic e ≡ true → None ≡ looked_up_in automatic s
  automatic_report a = sym (ap (looked_up_in automatic) report ∙ ap (λ (y : Bool). cond y None (Some e)) a)

  pub looked_up_report : in_block automatic e ≡ false → Some e ≡ looked_up_in automatic s
  looked_up_report a = sym (ap (looked_up_in automatic) report ∙ ap (λ (y : Bool). cond y None (Some e)) a)

module _ (head : Head) (t : Lists) where
  by_automatic : (e : ℕ) {y : Bool} → in_block head.automatic e ≡ y → (p : ℕ)
      → wanted_at (gate_in head t) p (Report e) ≡ (y || (in_set head.marks p || any (line_holds p e) (lines_in head.count t)))
  unfolding gate_in wants
  by_automatic e a p = ap (λ (y : Bool). y || (in_set head.marks p || any (line_holds p e) (lines_in head.count t))) a

  asked_wanted : (s : Saying) → wanted_of head.marks (lines_in head.count t) (looked_up_in head.automatic s) ≡ wanted_by (gate_in head t) s
  asked_wanted (Report e) = go (in_block head.automatic e) refl
    where
      lines : List Line
      lines = lines_in head.count t

      go : (y : Bool) → in_block head.automatic e ≡ y → wanted_of head.marks lines (cond y None (Some e)) ≡ wanted_by (gate_in head t) (Report e)
      go true a = wanted_everywhere (gate_in head t) (Report e) (by_automatic e a)
      go false a = set_ext 8 (λ p. in_set head.marks p || any (line_holds p e) lines) (λ p. wanted_at (gate_in head t) p (Report e)) (λ p _. sym (by_automatic e a p))
  asked_wanted (Announcement b) = wanted_everywhere (gate_in head t) (Announcement b) (λ _. refl)
  asked_wanted Restart = wanted_everywhere (gate_in head t) Restart (λ _. refl)
  asked_wanted (Inquiry role e) = wanted_everywhere (gate_in head t) (Inquiry role e) (λ _. refl)
  asked_wanted (InquiryForAll destination) = wanted_everywhere (gate_in head t) (InquiryForAll destination) (λ _. refl)
  asked_wanted (Learn e) = wanted_everywhere (gate_in head t) (Learn e) (λ _. refl)
  asked_wanted Nothing = wanted_everywhere (gate_in head t) Nothing (λ _. refl)

  -- Once it is known what is looked up.
  pub wanted_by_lem : (s : Saying) {r : Option ℕ} (k : Option ℕ) → r ≡ looked_up_in head.automatic s → r ≡ k → wanted_of head.marks (lines_in head.count t) k ≡ wanted_by (gate_in head t) s
  wanted_by_lem s k e f = ap (wanted_of head.marks (lines_in head.count t)) (sym f ∙ e) ∙ asked_wanted s

  -- The ports that the lookup finds.
  pub holders_wanted : (s : Saying) (e : ℕ) {r : Option ℕ} {found : ℕ} → r ≡ looked_up_in head.automatic s → r ≡ Some e
      → found ≡ set_of 8 (λ p. in_set head.marks p || holding_in head.count t.starts t.ports t.sizes p e)
      → found ≡ wanted_by (gate_in head t) s
  holders_wanted s e f g h = h ∙ (λ z. set_of 8 (λ p. in_set head.marks p || sym (any_each (line_holds p e) head.count (line_at t)) z)) ∙ wanted_by_lem s (Some e) f g
