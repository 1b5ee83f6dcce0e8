-- What a part of the code promises of a call of a board file, on an output of 2,048 bytes.
use Rattle.std.specs.Prelude.{ℕ, ◌≤◌, ◌≡◌, List, take}
use Rattle.node_rules.specs.Boards.{Board}
use Rattle.node_rules.specs.Sending.{all_bytes}
use Rattle.node_rules.specs.Calls.{Outcome}
use Rattle.node.specs.declared.Answer.{Answer}
use Rattle.node.specs.Answers.{answer_of}

-- Its answer, the board after it, and the bytes that it wrote at the output's start.
pub record CallLeft (o : Outcome) (a : Answer) (board : Board) (out : List ℕ) : Type 0 where
  pub answered : a ≡ answer_of o
  pub next : board ≡ o.next
  pub few : a.bytes ≤ 2048
  pub bytes : take a.bytes out ≡ all_bytes o.sent
