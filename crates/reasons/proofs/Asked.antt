-- What the box answers of an entry when it is asked for a port, and the lines that the entry has.
use Rattle.std.proofs.Common.{◌≡◌, ℕ, zero, suc, ◌+◌, ◌<◌, Result, Ok, Err, List, [], ◌++◌, refl, sym, ap, ap₂, ◌∙◌, arith, add-one, append_assoc, eq-eqb, ne_eqb}
use Rattle.basics.specs.Refusals.{Told, refused, refusal_number}
use Rattle.basics.specs.declared.Refusal.{Refusal}
use Rattle.basics.proofs.Numbers.{refusal_numbered}
use Rattle.text.specs.declared.Page.{Page}
use Rattle.text.specs.Text.{wrote, decimal, new_line}
use Rattle.text.proofs.Laws.{wrote_next}
use Rattle.gateway_rules.specs.State.{Gate}
use Rattle.gateway_rules.specs.Step.{step}
use Rattle.gateway_rules.specs.declared.Reason.{Reason}
use Rattle.gateway_rules.specs.Reasons.{Numbered, reason_told, number_in, why_told}
use Rattle.gateway_rules.proofs.Asking.{as_the_step, after_the_step}
use Rattle.index_rules.specs.Boxes.{Right}
use Rattle.gateway.specs.State.{gate_in, gate_of, box_of}
use Rattle.gateway.specs.declared.state.Gateway.{Gateway}
use Rattle.gateway.specs.Asking.{answer_told, box_why}
use Rattle.gateway.proofs.Lending.{right_why}
use Rattle.replay.specs.Lines.{ports}
use Rattle.reasons.specs.Lines.{line_of, line_for, answer_of}

-- ---- a refusal is the same of each port

module _ (g : Gate) (q : ℕ) (bytes : List ℕ) where
  pub refused_alike : (p r : ℕ) → p < g.ports → r < g.ports → (why_told g q p bytes).refusal ≡ (why_told g q r bytes).refusal
  refused_alike p r hp hr = go (step g q bytes).refusal refl
    where
      go : (n : ℕ) → (step g q bytes).refusal ≡ n → (why_told g q p bytes).refusal ≡ (why_told g q r bytes).refusal
      go zero e = after_the_step g q p bytes hp e ∙ sym (after_the_step g q r bytes hr e)
      go (suc n) e =
          let some : (step g q bytes).refusal ≡ 0 → ⊥ = λ z. omega (arith, e, z) in
          as_the_step g q p bytes hp some ∙ sym (as_the_step g q r bytes hr some)

  -- The lines of the first ports.
  unfoldable pub lines_before : ℕ → List ℕ
  lines_before zero = []
  lines_before (suc p) = lines_before p ++ line_for g q bytes p

  pub lines_next : (first : Page) (p : ℕ) {line : List ℕ} {now after : Page} → now ≡ wrote first (lines_before p) → line ≡ line_for g q bytes p → after ≡ wrote now line
      → after ≡ wrote first (lines_before (p + 1))
  unfolding lines_before
  lines_next first p {line} e l f =
      f
      ∙ ap₂ (λ (x : Page) (y : List ℕ). wrote x y) e l
      ∙ wrote_next first (lines_before p) (line_for g q bytes p)
      ∙ ap (λ (n : ℕ). wrote first (lines_before n)) (sym (add-one p))

  pub lines_none : (p : ℕ) → p ≡ 0 → lines_before p ≡ []
  unfolding lines_before
  lines_none p z = ap lines_before z

  pub answer_lines : (why_told g q 0 bytes).refusal ≡ 0 → (p : ℕ) → p ≡ ports → lines_before p ≡ answer_of g q bytes
  unfolding lines_before answer_of
  answer_lines e p h = ap lines_before h ∙ rw (eq-eqb (why_told g q 0 bytes).refusal 0 e) (simp append_assoc)

  pub answer_refused : (refusal : Refusal) → refused (refusal_number refusal) [] ≡ why_told g q 0 bytes → decimal (refusal_number refusal) ++ new_line ≡ answer_of g q bytes
  unfolding answer_of
  answer_refused refusal f =
      let number = ap (λ (x : Told (List Numbered)). x.refusal) f in
      ap (λ (k : ℕ). decimal k ++ new_line) number ∙ rw (ne_eqb (why_told g q 0 bytes).refusal 0 (λ z. refusal_numbered refusal (number ∙ z)))

-- ---- the code's question about a port

module _ (g : Gateway) (q p : ℕ) (bytes : List ℕ) (right : Right (box_of g) × (g.head.ports ≡ ports)) (h : p < ports) (a : Result Reason Refusal) (told : answer_told a ≡ box_why (box_of g) q p bytes) where
  answer : answer_told a ≡ why_told (gate_of g) q p bytes
  answer = told ∙ right_why (box_of g) q p bytes right.0

  alike : (why_told (gate_of g) q 0 bytes).refusal ≡ (why_told (gate_of g) q p bytes).refusal
  unfolding gate_in
  alike = refused_alike (gate_of g) q bytes 0 p (omega (arith, right.1)) (omega (arith, right.1, h))

  pub asked_reason : {r : Reason} → a ≡ Ok r → ((why_told (gate_of g) q 0 bytes).refusal ≡ 0) × (line_of p (reason_told r).number ≡ line_for (gate_of g) q bytes p)
  asked_reason e =
      let f = ap answer_told (sym e) ∙ answer in
      (alike ∙ sym (ap (λ (x : Told (List Numbered)). x.refusal) f), ap (λ (x : Told (List Numbered)). line_of p (number_in x)) f)

  pub asked_refused : {refusal : Refusal} → a ≡ Err refusal → refused (refusal_number refusal) [] ≡ why_told (gate_of g) q p bytes
  asked_refused e = ap answer_told (sym e) ∙ answer

  pub refused_first : {refusal : Refusal} → a ≡ Err refusal → (0 < p → (why_told (gate_of g) q 0 bytes).refusal ≡ 0) → p ≡ 0
  refused_first {refusal} e reasons =
      let number = ap (λ (x : Told (List Numbered)). x.refusal) (asked_refused e) in
      let none : 0 < p → ⊥ = λ l. refusal_numbered refusal (number ∙ sym alike ∙ reasons l) in
      omega (arith, none)
