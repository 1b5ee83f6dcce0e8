-- What the box answers of an entry when it is asked for a leg, and the lines that the entry has.
use Rattle.std.proofs.Common.{◌≡◌, ℕ, zero, suc, ◌<◌, Bool, true, false, cond, ◌||◌, eqb, ◌⊎◌, List, [], ◌∷◌, Result, Ok, Err, sym, refl, ap, ◌∙◌, ap₂, ⊎_elim, arith, eqb-true}
use mathlib.Core.Bool.{false≢true}
use Rattle.numbers.specs.Numbers.{number_at}
use Rattle.basics.specs.Lists.{first_or}
use Rattle.basics.specs.Refusals.{answered, Told, told, refused, refusal_number}
use Rattle.basics.specs.declared.Refusal.{Refusal}
use Rattle.message.specs.declared.Kind.TheVariants.{EventReport}
use Rattle.message.specs.declared.Saying.{Saying}
use Rattle.message.specs.declared.Saying.TheVariants.{Report}
use Rattle.message.specs.Mti.{meaning_of, mtis_of}
use Rattle.message.specs.Reading.{mti_in, fields_in, message_in}
use Rattle.message.specs.Saying.{said_by}
use Rattle.message.proofs.KindsOfMti.{kind_exactly}
use Rattle.gateway_rules.specs.State.{Gate}
use Rattle.gateway_rules.specs.Step.{step}
use Rattle.gateway_rules.specs.Reasons.{reason_for, Numbered, reason_told, event_of, reported_in, why_told}
use Rattle.gateway_rules.specs.declared.Reason.{Reason}
use Rattle.gateway_rules.specs.declared.Reason.TheVariants.{ArrivalPort}
use Rattle.gateway_rules.proofs.Said.{report_kind}
use Rattle.gateway_rules.proofs.Limits.{step_up_to}
use Rattle.gateway_rules.proofs.Asking.{as_the_step, after_the_step, why_answered, reason_once}
use Rattle.index_rules.specs.Boxes.{Right}
use Rattle.gateway.specs.State.{gate_in, gate_of, box_of}
use Rattle.gateway.specs.declared.state.Gateway.{Gateway}
use Rattle.gateway.specs.Asking.{answer_told, box_why}
use Rattle.gateway.proofs.Lending.{right_why}
use Rattle.replay.specs.Lines.{ports}
use Rattle.explanation.specs.Words.{leg_lines, refused_line, event_in, entry_lines, accepted_report}

-- ---- where the event of a report stands

event_at_lem : (s : List ℕ) (e : ℕ) → said_by (message_in s) ≡ Report e → number_at s 8 8 ≡ e
unfolding said_by fields_in meaning_of mtis_of
event_at_lem s e says = go (mti_in s) says (sym (kind_exactly EventReport refl (mti_in s)) ∙ report_kind (message_in s) e says)
  where
    same : {x : Saying} → x ≡ Report (number_at s 8 8) → x ≡ Report e → number_at s 8 8 ≡ e
    same f g = cc

    of_both : (m : ℕ) → (a b : Bool) → eqb m 0x05B4 ≡ a → eqb m 0x0F14 ≡ b → (a || (b || false)) ≡ true → (m ≡ 0x05B4) ⊎ (m ≡ 0x0F14)
    of_both m true b f g t = ◌⊎◌.inl (eqb-true m 0x05B4 f)
    of_both m false true f g t = ◌⊎◌.inr (eqb-true m 0x0F14 g)
    of_both m false false f g t = absurd (false≢true t)

    go : (m : ℕ) → said_by (fields_in m s) ≡ Report e → (eqb m 0x05B4 || (eqb m 0x0F14 || false)) ≡ true → number_at s 8 8 ≡ e
    go m says t = ⊎_elim (λ f. same (ap (λ (n : ℕ). said_by (fields_in n s)) f) says) (λ f. same (ap (λ (n : ℕ). said_by (fields_in n s)) f) says) (of_both m (eqb m 0x05B4) (eqb m 0x0F14) refl refl t)

-- ---- an entry

-- What is refused has the gateway call's number, or 15 where that call accepts it.
pub record Refuses (g : Gate) (q : ℕ) (bytes : List ℕ) (i n : ℕ) : Type 0 where
  pub other : n ≡ 15 → [] ≡ entry_lines i g q bytes
  pub line : (n ≡ 15 → ⊥) → refused_line i n ≡ entry_lines i g q bytes
  pub no_report_lem : accepted_report g q bytes ≡ false

module _ (g : Gate) (q : ℕ) (bytes : List ℕ) where
  report_parts : accepted_report g q bytes ≡ true → ((step g q bytes).refusal ≡ 0) × (first_or true (λ _. false) (reported_in bytes) ≡ false)
  unfolding accepted_report
  report_parts = go (step g q bytes).refusal (reported_in bytes)
    where
      go : (n : ℕ) (es : List ℕ) → answered (first_or false (λ _. true)) (λ _. false) n es ≡ true → (n ≡ 0) × (first_or true (λ _. false) es ≡ false)
      go zero [] t = absurd (false≢true t)
      go zero (e ∷ es) t = (refl, refl)
      go (suc n) es t = absurd (false≢true t)

  pub report_lines : (i : ℕ) → accepted_report g q bytes ≡ true → leg_lines ports 0 i g q (event_in bytes) ≡ entry_lines i g q bytes
  unfolding accepted_report entry_lines
  report_lines i = go (step g q bytes).refusal (reported_in bytes)
    where
      go : (n : ℕ) (es : List ℕ) → answered (first_or false (λ _. true)) (λ _. false) n es ≡ true
          → leg_lines ports 0 i g q (first_or 0 (λ e. e) es) ≡ answered (first_or [] (leg_lines ports 0 i g q)) (refused_line i) n es
      go zero [] t = absurd (false≢true t)
      go zero (e ∷ es) t = refl
      go (suc n) es t = absurd (false≢true t)

  -- ---- asked for a leg that is there

  module _ (p : ℕ) (there : p < g.ports) where
    accepted_why : accepted_report g q bytes ≡ true → (why_told g q p bytes).refusal ≡ 0
    accepted_why t = let (a, r) = report_parts t in after_the_step g q p bytes there a ∙ ap (λ (b : Bool). cond b 15 0) r

    event_said : (t : accepted_report g q bytes ≡ true) → event_in bytes ≡ (why_answered g q p bytes (accepted_why t)).event
    event_said t = ap (λ (s : Saying). first_or 0 (λ e. e) (event_of s)) (why_answered g q p bytes (accepted_why t)).reports.says

    -- A report's event stands at byte 8.
    event_there : {e : ℕ} → e ≡ number_at bytes 8 8 → accepted_report g q bytes ≡ true → e ≡ event_in bytes
    event_there f t = f ∙ event_at_lem bytes _ (why_answered g q p bytes (accepted_why t)).reports.says ∙ sym (event_said t)

    -- A report is told its reason.
    leg_reason : (a : Result Reason Refusal) → answer_told a ≡ why_told g q p bytes → accepted_report g q bytes ≡ true → a ≡ Ok (reason_for g q (event_in bytes) p)
    leg_reason a f t = go a (f ∙ (why_answered g q p bytes (accepted_why t)).told ∙ ap (λ (e : ℕ). told (reason_told (reason_for g q e p) ∷ [])) (sym (event_said t)))
      where
        first : Told (List Numbered) → Numbered
        first x = first_or (reason_told ArrivalPort) (λ n. n) x.value

        go : (a : Result Reason Refusal) → answer_told a ≡ told (reason_told (reason_for g q (event_in bytes) p) ∷ []) → a ≡ Ok (reason_for g q (event_in bytes) p)
        go (Ok r) f = ap Ok (reason_once r (reason_for g q (event_in bytes) p) (ap first f))
        go (Err n) f = let z : ◌≡◌ {A = ℕ} 0 1 = ap (λ (x : Told (List Numbered)). first_or 0 (λ _. 1) x.value) f in absurd (omega arith)

    -- What is told a reason is a report.
    reason_report : (r : Reason) → answer_told (Ok r) ≡ why_told g q p bytes → accepted_report g q bytes ≡ true
    unfolding accepted_report
    reason_report r f =
        let w = why_answered g q p bytes (sym (ap (λ (x : Told (List Numbered)). x.refusal) f)) in
        ap₂ (λ (n : ℕ) (s : Saying). answered (first_or false (λ _. true)) (λ _. false) n (event_of s)) w.accepted w.reports.says

    refuses : (i n : ℕ) → refused n [] ≡ why_told g q p bytes → Refuses g q bytes i n
    unfolding accepted_report entry_lines
    refuses i n f = go (step g q bytes).refusal refl (reported_in bytes) refl
      where
        number : n ≡ (why_told g q p bytes).refusal
        number = ap (λ (x : Told (List Numbered)). x.refusal) f

        not_told : (why_told g q p bytes).refusal ≡ 0 → ⊥
        not_told z =
            let e : ◌≡◌ {A = ℕ} 0 1 = ap (λ (x : Told (List Numbered)). first_or 0 (λ _. 1) x.value) (f ∙ (why_answered g q p bytes z).told) in
            omega arith

        go : (m : ℕ) → (step g q bytes).refusal ≡ m → (es : List ℕ) → reported_in bytes ≡ es → Refuses g q bytes i n
        go zero a [] r =
            let fifteen : n ≡ 15 = number ∙ after_the_step g q p bytes there a ∙ ap (λ (l : List ℕ). cond (first_or true (λ _. false) l) 15 0) r in
            record { other = λ _. rw (a, r); line = λ z. absurd (z fifteen); no_report_lem = rw (a, r) }
        go zero a (e ∷ es) r = absurd (not_told (after_the_step g q p bytes there a ∙ ap (λ (l : List ℕ). cond (first_or true (λ _. false) l) 15 0) r))
        go (suc m) a es r =
            let same : n ≡ suc m = number ∙ as_the_step g q p bytes there (λ z. omega (arith, a, z)) ∙ a in
            record { other = λ z. absurd (omega (arith, step_up_to g q bytes, a, same, z)); line = λ _. rw a (ap (refused_line i) same); no_report_lem = rw a }

-- ---- the code's question about a leg

module _ (g : Gateway) (q leg : ℕ) (bytes : List ℕ) (right : Right (box_of g) × (g.head.ports ≡ ports)) (h : leg < ports) (a : Result Reason Refusal) (told : answer_told a ≡ box_why (box_of g) q leg bytes) where
  there : leg < (gate_of g).ports
  unfolding gate_in
  there = omega (arith, right.1, h)

  answer : answer_told a ≡ why_told (gate_of g) q leg bytes
  answer = told ∙ right_why (box_of g) q leg bytes right.0

  module _ {r : Reason} (e : a ≡ Ok r) where
    pub asked_report : accepted_report (gate_of g) q bytes ≡ true
    asked_report = reason_report (gate_of g) q bytes leg there r (ap answer_told (sym e) ∙ answer)

    pub asked_reason : r ≡ reason_for (gate_of g) q (event_in bytes) leg
    asked_reason = same (sym e ∙ leg_reason (gate_of g) q bytes leg there a answer asked_report)
      where
        same : {x y : Reason} → ◌≡◌ {A = Result Reason Refusal} (Ok x) (Ok y) → x ≡ y
        same e = cc

    pub asked_event : {event : ℕ} → event ≡ number_at bytes 8 8 → event ≡ event_in bytes
    asked_event f = event_there (gate_of g) q bytes leg there f asked_report

  module _ {refusal : Refusal} (e : a ≡ Err refusal) where
    pub asked_told : refused (refusal_number refusal) [] ≡ why_told (gate_of g) q leg bytes
    asked_told = ap answer_told (sym e) ∙ answer

    pub asked_refused : accepted_report (gate_of g) q bytes ≡ true → ⊥
    asked_refused f = go (sym e ∙ leg_reason (gate_of g) q bytes leg there a answer f)
      where
        go : {r : Reason} → ◌≡◌ {A = Result Reason Refusal} (Err refusal) (Ok r) → ⊥
        go e = let z : ◌≡◌ {A = ℕ} 0 1 = cc in omega arith

-- Each leg of an entry is refused as the first.
pub first_refuses : (g : Gateway) (q : ℕ) (bytes : List ℕ) → g.head.ports ≡ ports → (i : ℕ) {n : ℕ} → refused n [] ≡ why_told (gate_of g) q 0 bytes → Refuses (gate_of g) q bytes i n
unfolding gate_in
first_refuses g q bytes four i {n} f = refuses (gate_of g) q bytes 0 (omega (arith, four)) i n f
