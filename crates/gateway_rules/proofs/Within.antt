-- One line inside another: what it holds the other holds, and it is of the same port and node.
use Prim.Native.Nat.{ℕ}
use mathlib.Core.Path.{◌≡◌, refl, sym, ap, ◌∙◌}
use mathlib.Core.Bool.{Bool, true, ◌&&◌, ◌||◌, or-true}
use mathlib.Core.List.{List, [], ◌∷◌, ◌++◌}
use borrow.Author.Tests.{eqb-true, eq-eqb}
use lib.Dec.{eqb}
use Rattle.range.specs.Range.{in_block, inside}
use Rattle.range.proofs.Comparing.{inside_holds, inside_self, inside_more}
use Rattle.basics.proofs.Lists.{any_append}
use Rattle.basics.proofs.Bools.{both}
use Rattle.gateway_rules.specs.declared.Line.{Line}
use Rattle.gateway_rules.specs.Step.{within, covered, line_holds}

-- What a test that is passed says.
pub record Inner (a b : Line) : Type 0 where
  pub port : a.port ≡ b.port
  pub node : a.node ≡ b.node
  pub block : inside a.block b.block ≡ true

pub inner : (a b : Line) → within a b ≡ true → Inner a b
inner a b t =
    let h = both (eqb a.port b.port) (eqb a.node b.node && inside a.block b.block) t in
    let k = both (eqb a.node b.node) (inside a.block b.block) h.1 in
    record { port = eqb-true a.port b.port h.0; node = eqb-true a.node b.node k.0; block = k.1 }

pub inner_passes : (a b : Line) → Inner a b → within a b ≡ true
inner_passes a b i = rw (eq-eqb a.port b.port i.port, eq-eqb a.node b.node i.node, i.block)

pub within_self : (l : Line) → within l l ≡ true
within_self l = inner_passes l l (record { port = refl; node = refl; block = inside_self l.block })

pub within_more : (a b c : Line) → within a b ≡ true → within b c ≡ true → within a c ≡ true
within_more a b c t u =
    let i = inner a b t in
    let j = inner b c u in
    inner_passes a c (record { port = i.port ∙ j.port; node = i.node ∙ j.node; block = inside_more a.block b.block c.block i.block j.block })

pub within_holds : (p e : ℕ) (a b : Line) → within a b ≡ true → line_holds p e a ≡ true → line_holds p e b ≡ true
within_holds p e a b t u =
    let i = inner a b t in
    let h = both (eqb a.port p) (in_block a.block e) u in
    rw (eq-eqb b.port p (sym i.port ∙ eqb-true a.port p h.0), inside_holds a.block b.block e i.block h.1)

-- A line that stands at the end is inside one of those there.
pub covered_last : (lines : List Line) (l : Line) → covered (lines ++ (l ∷ [])) l ≡ true
covered_last lines l =
    any_append (within l) lines (l ∷ []) ∙ ap (λ (t : Bool). covered lines l || (t || covered [] l)) (within_self l) ∙ or-true (covered lines l)
