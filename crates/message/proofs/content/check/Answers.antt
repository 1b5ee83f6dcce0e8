-- Each return is reached by the tests above it, in the order of the list.
use mathlib.Core.Path.{sym, ◌∙◌}
use borrow.Author.Tests.{eqb-true}
use Rattle.message.proofs.Laws.{nodes_source, nodes_destination, nodes_good, Placed, content_destination, content_event, content_rest, content_none}
use Rattle.message.proofs.content.check.Goals as goal

pub returns-then-bad_node : goal.returns-then-bad_node
returns-then-bad_node c = rw (nodes_source c.args.message (sym c.if-bad_node.ensures))

pub returns-then-bad_where_present : goal.returns-then-bad_where_present
returns-then-bad_where_present c = rw (nodes_destination c.args.message (sym c.if-bad_where_present.ensures))

pub returns-then-misplaced : goal.returns-then-misplaced
returns-then-misplaced c =
    let m = c.args.message in
    let nodes = nodes_good m (sym c.if-bad_node.ensures) (sym c.if-bad_where_present.ensures) in
    rw (nodes, content_destination m c.args.content.now (sym c.if-misplaced.ensures))

pub returns-then-misplaced-2 : goal.returns-then-misplaced-2
returns-then-misplaced-2 c =
    let m = c.args.message in
    let nodes = nodes_good m (sym c.if-bad_node.ensures) (sym c.if-bad_where_present.ensures) in
    rw (nodes, content_event m c.args.content.now (sym c.if-misplaced-2.ensures))

pub returns-then-is_empty : goal.returns-then-is_empty
returns-then-is_empty c =
    let m = c.args.message in
    let nodes = nodes_good m (sym c.if-bad_node.ensures) (sym c.if-bad_where_present.ensures) in
    let placed : Placed m = record { destination = sym c.if-misplaced.ensures; event = sym c.if-misplaced-2.ensures } in
    c.check_none.ensures ∙ content_none m.mti m.source c.args.content.now (eqb-true _ 0 (sym c.if-is_empty.ensures)) ∙ content_rest m c.args.content.now nodes placed

pub returns : goal.returns
returns c =
    let m = c.args.message in
    let nodes = nodes_good m (sym c.if-bad_node.ensures) (sym c.if-bad_where_present.ensures) in
    let placed : Placed m = record { destination = sym c.if-misplaced.ensures; event = sym c.if-misplaced-2.ensures } in
    c.check_content.ensures ∙ content_rest m c.args.content.now nodes placed
