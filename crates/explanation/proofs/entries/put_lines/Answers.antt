-- The entry's lines are put in, and the box takes it.
use Rattle.std.proofs.Common.{Bool, false, ◌||◌, ap, ◌∙◌}
use Rattle.text.proofs.Laws.{remains_all, remains_next}
use Rattle.gateway.specs.declared.state.Head.{Head}
use Rattle.gateway.specs.State.{gate_of, box_of}
use Rattle.gateway.proofs.Lending.{right_next, gate_next}
use Rattle.gateway_rules.specs.State.{start_of}
use Rattle.range.specs.Range.{house}
use Rattle.replay.specs.Lines.{ports}
use Rattle.replay.proofs.Walk.{started, started_ports, started_right}
use Rattle.explanation.specs.Words.{entry_lines, lines_of}
use Rattle.explanation.proofs.Running.{lines_none, lines_some}
use Rattle.explanation.proofs.entries.put_lines.Goals as goal

pub loop-entry-init : goal.loop-entry-init
loop-entry-init c =
    let e = c.start.ensures in
    let all = lines_of false (start_of ports house) c.args.entries in record {
      lines = rw (c.into_iter-entry-iterator.ensures.into_iter_gives, started c.start.result e) (remains_all c.args.page.now all c.requires);
      right = (started_right c.start.result e, started_ports c.start.result e);
    }

pub loop-entry-preserved : goal.loop-entry-preserved
loop-entry-preserved c =
    let b = box_of c.loop-entry.gateway in
    let entry = c.in-Some.entry in
    let before = c.loop-entry.invariant in
    let reported = ap (λ (t : Bool). c.loop-entry.reported || t) c.put-reported.ensures.accepted in
    let gate = gate_next b entry.port entry.body.now before.right.0 c.hear.ensures.seen in
    let lines = lines_some c.loop-entry.reported b.gate c.loop-entry.entry-iterator c.next.new.self entry (gate_of c.hear.new.self) _ c.in-Some.ensures.steps reported gate in record {
      lines = remains_next (entry_lines entry.index b.gate entry.port entry.body.now) (rw lines at before.lines) c.put-reported.ensures.lines;
      right = (right_next b entry.port entry.body.now before.right.0 c.hear.ensures.seen, ap (λ (h : Head). h.ports) c.hear.ensures.left ∙ before.right.1);
    }

pub returns : goal.returns
returns c =
    let before = c.loop-entry.invariant in
    let lines = lines_none c.loop-entry.reported (gate_of c.loop-entry.gateway) c.loop-entry.entry-iterator c.next.new.self c.in-None.ensures.steps in
    c.put_end.ensures ∙ (rw lines at before.lines).after
