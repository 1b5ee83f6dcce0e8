-- "While no meter is marked, sent plus held back over all ports equals all reports in times the port count less one" (document 02, W7).
use Prim.Native.Nat.{ℕ, ◌+◌, ◌-◌, ◌*◌, ◌<◌}
use mathlib.Core.Path.{◌≡◌, refl, sym, ap, ap₂, ◌∙◌}
use mathlib.Core.Logic.{inl, inr}
use mathlib.Core.Bool.{Bool, true, false, cond, not, ◌&&◌}
use mathlib.Core.List.{List, [], ◌∷◌}
use native.Mathlib.Nat.{add-mul}
use native.Mathlib.Omega.{arith}
use borrow.Author.Tests.{eqb-true, eqb-false, eq-eqb, ne_eqb, lt-ltb}
use lib.Dec.{eqb, ltb}
use Rattle.basics.specs.Lists.{Among}
use Rattle.basics.proofs.Bools.{both}
use Rattle.gateway_rules.specs.History.{Entry}
use Rattle.index_rules.specs.Boxes.{Box}
use Rattle.meter_rules.specs.Meters.{at_zero, sum_below}
use Rattle.meter_rules.specs.Calls.{Call, reports, takes_in, sends, holds_back, calls, meters_after, how_many}
use Rattle.meter_rules.proofs.Counting.{named}
use Rattle.meter_rules.proofs.Sums.{sum_same, sum_plus, sum_level, sum_one}
use Rattle.meter_rules.proofs.Fair.{Fair, fair_calls}

-- ---- one call

-- What it adds to sent and held back at a port, and to reports in.
abbrev gone_or_kept : Call → ℕ → ℕ
gone_or_kept c p = cond (sends p c) 1 0 + cond (holds_back p c) 1 0

abbrev came_in : Call → ℕ → ℕ
came_in c p = cond (takes_in p c) 1 0

module _ (n : ℕ) (c : Call) (fair : Fair n c) where
  -- At each port an accepted report comes in, is sent or is held back, and only one of these.
  one_way : (p : ℕ) → p < n → gone_or_kept c p + came_in c p ≡ cond (reports c) 1 0
  one_way p l = go (reports c) (eqb p c.port) refl
    where
      there : ltb p c.ports ≡ true
      there = lt-ltb p c.ports (omega (arith, fair.ports))

      elsewhere : (t : Bool) → cond t 1 0 + cond (not t) 1 0 + 0 ≡ 1
      elsewhere true = refl
      elsewhere false = refl

      go : (r here : Bool) → eqb p c.port ≡ here
          → cond (r && c.to p) 1 0 + cond (r && (ltb p c.ports && (not (eqb p c.port) && not (c.to p)))) 1 0 + cond (r && eqb c.port p) 1 0 ≡ cond r 1 0
      go false here e = refl
      go true true e =
          let same = eqb-true p c.port e in
          let kept : c.to p ≡ false = ap c.to same ∙ fair.not_back in
          rw (kept, there, e, eq-eqb c.port p (sym same))
      go true false e = rw (there, e, ne_eqb c.port p (λ s. eqb-false p c.port e (sym s))) (elsewhere (c.to p))

  -- It comes in at one port.
  in_once : sum_below n (came_in c) ≡ cond (reports c) 1 0
  in_once = go (reports c) refl
    where
      go : (r : Bool) → reports c ≡ r → sum_below n (λ p. cond (r && eqb c.port p) 1 0) ≡ cond r 1 0
      go true e = sum_one n c.port (fair.there (eqb-true c.refusal 0 (both (eqb c.refusal 0) c.report e).0))
      go false e = omega (arith, sum_level n 0)

  call_adds_up : sum_below n (gone_or_kept c) ≡ sum_below n (came_in c) * (n - 1)
  call_adds_up =
      rw in_once
      (go (reports c)
      (sym (sum_plus n (gone_or_kept c) (came_in c)) ∙ sum_same n (λ p. gone_or_kept c p + came_in c p) (λ _. cond (reports c) 1 0) one_way ∙ sum_level n (cond (reports c) 1 0))
      in_once)
    where
      go : (r : Bool) → sum_below n (gone_or_kept c) + sum_below n (came_in c) ≡ n * cond r 1 0 → sum_below n (came_in c) ≡ cond r 1 0
          → sum_below n (gone_or_kept c) ≡ cond r 1 0 * (n - 1)
      go true all once = omega (arith, all, once)
      go false all once = omega (arith, all, once)

-- ---- every call

pub calls_add_up : (n : ℕ) (cs : List Call) → ((c : Call) → Among c cs → Fair n c)
    → sum_below n (λ p. how_many (sends p) cs + how_many (holds_back p) cs) ≡ sum_below n (λ p. how_many (takes_in p) cs) * (n - 1)
calls_add_up n [] fair = rw (sum_level n 0) (omega (arith, sum_level n (0 + 0)))
calls_add_up n (c ∷ cs) fair =
    sum_same n _ (λ p. gone_or_kept c p + rest p) (λ p l. omega arith)
    ∙ sum_plus n (gone_or_kept c) rest
    ∙ ap₂ (λ (x y : ℕ). x + y) (call_adds_up n c (fair c (inl refl))) (calls_add_up n cs (λ d there. fair d (inr there)))
    ∙ sym (add-mul (sum_below n (came_in c)) (sum_below n came) (n - 1))
    ∙ ap (λ (x : ℕ). x * (n - 1)) (sym (sum_plus n (came_in c) came))
  where
    rest : ℕ → ℕ
    rest p = how_many (sends p) cs + how_many (holds_back p) cs

    came : ℕ → ℕ
    came p = how_many (takes_in p) cs

-- ---- the meters

pub adds_up : (b : Box) (h : List Entry) → ((p : ℕ) → p < b.gate.ports → (meters_after at_zero (calls b h) p).marked ≡ false)
    → sum_below b.gate.ports (λ p. (meters_after at_zero (calls b h) p).sent + (meters_after at_zero (calls b h) p).held)
    ≡ sum_below b.gate.ports (λ p. (meters_after at_zero (calls b h) p).reports) * (b.gate.ports - 1)
adds_up b h unmarked =
    let n = b.gate.ports in
    let cs = calls b h in
    sum_same n _ (λ p. how_many (sends p) cs + how_many (holds_back p) cs) (λ p l. ap₂ (λ (x y : ℕ). x + y) (named b h p (unmarked p l)).sent (named b h p (unmarked p l)).held)
    ∙ calls_add_up n cs (fair_calls b h)
    ∙ ap (λ (x : ℕ). x * (n - 1)) (sym (sum_same n _ (λ p. how_many (takes_in p) cs) (λ p l. (named b h p (unmarked p l)).reports)))
