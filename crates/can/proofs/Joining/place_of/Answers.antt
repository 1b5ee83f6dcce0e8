use Rattle.std.proofs.Common.{arith}
use Rattle.can.proofs.Places.{first_place, second_place, no_place}
use Rattle.can.proofs.Joining.place_of.Goals as goal
use Rattle.can.proofs.Joining.place_of.Goals.{else-self-gt0-via-then-self-gt0+else-self-sender, else-self-gt0-via-else-self-gt0, else-self-gt1-via-then-self-gt1+else-self-sender-2, else-self-gt1-via-else-self-gt1}

pub returns-then-self-sender : goal.returns-then-self-sender
returns-then-self-sender c = first_place c.args.self.now c.args.sender c.requires c.if-self-gt0.true c.if-self-sender.true

pub returns-then-self-sender-2 : goal.returns-then-self-sender-2
returns-then-self-sender-2 c =
    second_place c.args.self.now c.args.sender c.requires c.if-self-gt1.true
    (elim c.else-self-gt0.branch [ else-self-gt0-via-then-self-gt0+else-self-sender w ↦ λ _. w.if-self-sender.false | else-self-gt0-via-else-self-gt0 w ↦ λ h _. omega arith ])
    c.if-self-sender-2.true

pub returns-else-self-gt1 : goal.returns-else-self-gt1
returns-else-self-gt1 c =
    no_place c.args.self.now c.args.sender c.requires
    (elim c.else-self-gt0.branch [ else-self-gt0-via-then-self-gt0+else-self-sender w ↦ λ _. w.if-self-sender.false | else-self-gt0-via-else-self-gt0 w ↦ λ h _. omega arith ])
    (elim c.else-self-gt1.branch [ else-self-gt1-via-then-self-gt1+else-self-sender-2 w ↦ λ _. w.if-self-sender-2.false | else-self-gt1-via-else-self-gt1 w ↦ λ h _. omega arith ])
