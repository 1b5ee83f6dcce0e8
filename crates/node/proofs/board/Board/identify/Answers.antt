-- The MTI of an Identified message is one of an event and nothing else.
use mathlib.Core.Path.{sym, ap, ◌∙◌, subst}
use mathlib.Core.List.{List}
use Prim.Native.Nat.{ℕ}
use Rattle.numbers.specs.Numbers.{pasted}
use Rattle.node_rules.specs.Sending.{Plain}
use Rattle.node_rules.proofs.Pieces.{identified_plain}
use Rattle.node.specs.Boards.{board_in}
use Rattle.node.proofs.Replying.{identified_bytes}
use Rattle.node.proofs.board.Board.identify.Goals as goal

pub put-requires-clause-plain : goal.put-requires-clause-plain
put-requires-clause-plain c = subst Plain (sym c.identified_mti-mti.ensures) (identified_plain _ _)

pub returns-clause-out_after : goal.returns-clause-out_after
returns-clause-out_after c =
    let a = c.args in
    c.put.ensures ∙ ap (λ (l : List ℕ). pasted a.at l a.out.now) (identified_bytes (board_in a.self.now) a.slot _ c.identified_mti-mti.ensures)
