use Prim.Native.Nat.{ℕ}
use mathlib.Core.Path.{◌≡◌, refl, sym, ap, ◌∙◌}
use mathlib.Core.Bool.{Bool, true, false, cond}
use mathlib.Core.List.{[], ◌∷◌}
use Rattle.basics.specs.Refusals.{refuse, first_of, answered}
use Rattle.basics.proofs.Sets.{nobody}
use lib.Dec.{eqb}
use Rattle.gateway_rules.specs.State.{bad_ports, start_of}
use Rattle.index_rules.specs.Index.{index_of}
use Rattle.index_rules.specs.Boxes.{Box}
use Rattle.gateway_rules.specs.Step.{start, starting}
use Rattle.gateway.specs.Answers.{Seen, seen_of}
use Rattle.gateway.proofs.start.Goals as goal

-- The one test of the port count.
abbrev tested : ℕ → ℕ → Bool → Seen
tested ports r bad = seen_of (index_of []) (answered (starting 0) (λ n. starting n (start_of 0 r)) (first_of (refuse 8 bad ∷ [])) (start_of ports r))

by_count : (ports r : ℕ) (bad : Bool) → bad_ports ports ≡ bad → tested ports r bad ≡ seen_of (index_of []) (start ports r)
unfolding start
by_count ports r bad e = ap (tested ports r) (sym e)

begun : (n ports r : ℕ) {k : ℕ} {b : Box} → k ≡ n → b ≡ record { gate = start_of ports r; index = index_of [] }
    → ◌≡◌ {A = Seen} (record { refusal = k; sent = 0; gate = b.gate; index = b.index }) (seen_of (index_of []) (starting n (start_of ports r)))
begun n ports r h e = λ i. record { refusal = h i; sent = sym (nobody 8) i; gate = (e i).gate; index = (ap (λ (b : Box). b.index) e ∙ sym (either (eqb n 0))) i }
  where
    either : (y : Bool) → cond y (index_of []) (index_of []) ≡ index_of []
    either true = refl
    either false = refl

pub returns-then-bad_ports : goal.returns-then-bad_ports
returns-then-bad_ports c =
    let a = c.args in
    begun 8 0 a.r c.from.ensures c.empty.ensures ∙ by_count a.ports a.r true (sym c.bad_ports.ensures ∙ c.if-bad_ports.true)

pub returns : goal.returns
returns c =
    let a = c.args in
    begun 0 a.ports a.r refl c.empty-2.ensures ∙ by_count a.ports a.r false (sym c.bad_ports.ensures ∙ c.if-bad_ports.false)
