-- By its node, or by its block.
use mathlib.Core.Path.{sym, ap, ◌∙◌, subst}
use mathlib.Core.Bool.{false}
use mathlib.Core.List.{[], ◌∷◌}
use borrow.Author.Tests.{not-false}
use Rattle.range.specs.Range.{is_block}
use Rattle.basics.proofs.Bools.{neither}
use Rattle.gateway.specs.declared.lines.Gone.{Gone}
use Rattle.gateway.specs.State.{no_block}
use Rattle.gateway.specs.Answers.{goes_by, Comparable}
use Rattle.gateway.proofs.lines.goes.Goals as goal

pub within-requires : goal.within-requires
within-requires c =
    let l = c.args.l in
    let blocks = subst (λ (g : Gone). Comparable g (l ∷ [])) c.in-HeldBy.is c.requires in
    (not-false (is_block l.block) (neither (no_block l) false blocks.1).0, blocks.0)

pub returns-in-OfNode : goal.returns-in-OfNode
returns-in-OfNode c = ap (λ (g : Gone). goes_by g c.args.l) (sym c.in-OfNode.is)

pub returns-in-HeldBy : goal.returns-in-HeldBy
returns-in-HeldBy c = c.within.ensures ∙ ap (λ (g : Gone). goes_by g c.args.l) (sym c.in-HeldBy.is)
