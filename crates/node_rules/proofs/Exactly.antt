-- Each refusal of a call is given exactly when document 01 says, in its order, and changes nothing.
use Prim.Native.Nat.{ℕ, zero, suc}
use mathlib.Core.Path.{◌≡◌, refl, sym, ◌∙◌}
use mathlib.Core.Logic.{◌↔◌}
use mathlib.Core.List.{List}
use Rattle.basics.specs.Refusals.{first_of, answered, None, Given}
use Rattle.basics.proofs.Firsts.{first_none, first_given}
use Rattle.node_rules.specs.declared.Call.{Call}
use Rattle.node_rules.specs.declared.Call.TheVariants.{Initialise, Announce, Produce, SetStatus, Receive}
use Rattle.node_rules.specs.Boards.{Board}
use Rattle.node_rules.specs.Calls.{Outcome, refusing, accepted, tests_of, outcome}
use Rattle.node_rules.proofs.Steps.{Happened, all_numbered, happened}
use Rattle.node_rules.proofs.Steps.Happened.{refused, restarts, identifies, reports, sets}

accepted_none : (b : Board) (call : Call) (bytes : List ℕ) → (accepted b call bytes).refusal ≡ 0
accepted_none b Initialise bytes = refl
accepted_none b (Announce i) bytes = refl
accepted_none b (Produce i) bytes = refl
accepted_none b (SetStatus i status) bytes = refl
accepted_none b Receive bytes = refl

module _ (b : Board) (call : Call) (bytes : List ℕ) (room : ℕ) where
  -- The refusal is the first test that applies.
  pub refusal_first : (outcome b call bytes room).refusal ≡ first_of (tests_of b call bytes room)
  unfolding outcome
  refusal_first = go (first_of (tests_of b call bytes room))
    where
      go : (n : ℕ) → (answered (λ o. o) (refusing b) n (accepted b call bytes)).refusal ≡ n
      go zero = accepted_none b call bytes
      go (suc n) = refl

  pub refused_exactly : (n : ℕ) → (n ≡ 0 → ⊥) → ((outcome b call bytes room).refusal ≡ n) ↔ Given n (tests_of b call bytes room)
  refused_exactly n h =
      let g = first_given (tests_of b call bytes room) n h in
      (λ e. g.0 (sym refusal_first ∙ e), λ e. refusal_first ∙ g.1 e)

  pub accepted_exactly : ((outcome b call bytes room).refusal ≡ 0) ↔ None (tests_of b call bytes room)
  accepted_exactly =
      let g = first_none (tests_of b call bytes room) (all_numbered b call bytes room) in
      (λ e. g.0 (sym refusal_first ∙ e), λ e. refusal_first ∙ g.1 e)

-- A refusal keeps the board, and writes and matches nothing.
kept : {b : Board} {c : Call} {o : Outcome} → Happened b c o → (o.refusal ≡ 0 → ⊥) → o ≡ refusing b o.refusal
kept (refused n h) z = refl
kept (restarts i g) z = absurd (z refl)
kept (identifies js matches f g s) z = absurd (z refl)
kept (reports i f g s r m) z = absurd (z refl)
kept (sets i status f l) z = absurd (z refl)

pub refused_keeps : (b : Board) (call : Call) (bytes : List ℕ) (room : ℕ) → ((outcome b call bytes room).refusal ≡ 0 → ⊥)
    → outcome b call bytes room ≡ refusing b (outcome b call bytes room).refusal
refused_keeps b call bytes room z = kept (happened b call bytes room) z
