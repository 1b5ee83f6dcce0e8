-- Each entry is run once there is one after it, and the last is asked.
use Rattle.std.proofs.Common.{[], sym, ap, ◌∙◌}
use Rattle.text.specs.Text.{wrote}
use Rattle.text.proofs.Laws.{remains_all}
use Rattle.gateway.specs.declared.state.Head.{Head}
use Rattle.gateway.specs.State.{box_of}
use Rattle.gateway.proofs.Lending.{right_next, gate_next}
use Rattle.replay.proofs.Walk.{started, started_ports, started_right}
use Rattle.reasons.proofs.Leaving.{no_lines, reached_first, reached_next, reached_last}
use Rattle.reasons.proofs.entries.ask_last.Goals as goal

pub returns-in_default : goal.returns-in_default
returns-in_default c =
    let a = c.args in
    (remains_all a.page.now [] c.requires.at_in_bounds).inside ∙ ap (wrote a.page.now) (no_lines a.entries.file.now (sym c.in_default.ensures.steps ∙ c.requires.first))

pub loop-entry-init : goal.loop-entry-init
loop-entry-init c =
    let s = c.start in
    let reached = reached_first c.args.entries c.next.new.self c.in-Some.asked c.requires.first c.in-Some.ensures.steps (started s.result s.ensures) in record {
      reached = rw c.into_iter-entry-iterator.ensures.into_iter_gives reached;
      right = (started_right s.result s.ensures, started_ports s.result s.ensures);
    }

pub loop-entry-preserved : goal.loop-entry-preserved
loop-entry-preserved c =
    let b = box_of c.loop-entry.gateway in
    let asked = c.loop-entry.asked in
    let before = c.loop-entry.invariant in
    let gate = gate_next b asked.port asked.body.now before.right.0 c.hear.ensures.seen in record {
      reached = reached_next before.reached c.next-in-loop-entry.new.self c.in-Some-entry.entry c.in-Some-entry.ensures.steps gate;
      right = (right_next b asked.port asked.body.now before.right.0 c.hear.ensures.seen, ap (λ (h : Head). h.ports) c.hear.ensures.left ∙ before.right.1);
    }

pub put-requires-clause-within : goal.put-requires-clause-within
put-requires-clause-within c = (remains_all c.args.page.now [] c.requires.at_in_bounds).inside

pub returns : goal.returns
returns c = c.put.ensures ∙ ap (wrote c.args.page.now) (reached_last c.loop-entry.invariant.reached c.next-in-loop-entry.new.self c.in-None.ensures.steps)
