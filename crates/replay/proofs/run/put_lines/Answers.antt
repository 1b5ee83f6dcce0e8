use mathlib.Core.Path.{ap, ◌∙◌}
use Rattle.text.proofs.Laws.{remains_all, remains_next, remains_none}
use Rattle.index_rules.proofs.Boxes.{gate_alone_step}
use Rattle.gateway.specs.State.{gate_of, box_of}
use Rattle.gateway.specs.Answers.{seen_of}
use Rattle.gateway.proofs.Lending.{right_next}
use Rattle.replay.specs.Lines.{ports, lines_of}
use Rattle.range.specs.Range.{house}
use Rattle.gateway_rules.specs.State.{start_of}
use Rattle.replay.proofs.Walk.{started, started_right}
use Rattle.replay.proofs.Running.{lines_none, lines_some}
use Rattle.replay.proofs.run.put_lines.Goals as goal

pub loop-entry-init : goal.loop-entry-init
loop-entry-init c =
    let a = c.args in
    let e = c.start.ensures in
    record {
      lines = rw (c.into_iter-entry-iterator.ensures.into_iter_gives, started c.start.result e) (remains_all a.page.now (lines_of (start_of ports house) a.entries) c.requires);
      right = started_right c.start.result e;
    }

pub loop-entry-preserved : goal.loop-entry-preserved
loop-entry-preserved c =
    let l = c.loop-entry in
    let b = box_of l.gateway in
    let entry = c.in-Some.entry in
    let stepped = c.hear-a.ensures.seen ∙ ap (seen_of b.index) (gate_alone_step b entry.port entry.body.now l.invariant.right) in
    let lines = lines_some b.gate l.entry-iterator c.next.new.self entry c.hear-a.result c.hear-a.new.self b.index c.in-Some.ensures.steps stepped in
    record {
      lines = remains_next _ (rw lines at l.invariant.lines) c.put.ensures;
      right = right_next b entry.port entry.body.now l.invariant.right c.hear-a.ensures.seen;
    }

pub returns : goal.returns
returns c = let l = c.loop-entry in remains_none (rw (lines_none (gate_of l.gateway) l.entry-iterator c.next.new.self c.in-None.ensures.steps) at l.invariant.lines)
