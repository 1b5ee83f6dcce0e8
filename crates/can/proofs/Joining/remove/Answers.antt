use Rattle.std.proofs.Common.{◌-◌, ap}
use Rattle.can.specs.States.{place_number}
use Rattle.can.proofs.Places.{removed_first, removed_second}
use Rattle.can.proofs.Joining.remove.Goals as goal
use Rattle.can.proofs.Joining.remove.Goals.{in-First, in-Second}

pub returns : goal.returns
returns c =
    elim c.match-place.branch [
      | in-First w ↦ removed_first c.args.self.now _ c.requires.1 _ (ap place_number w.in-First.is) c.requires.0 (ap (λ s. s.count - 1) w.self-is) (ap (λ s. s.first) w.self-is)
      | in-Second w ↦ removed_second c.args.self.now _ c.requires.1 _ (ap place_number w.in-Second.is) c.requires.0 (ap (λ s. s.count - 1) w.self-is) (ap (λ s. s.first) w.self-is)
    ]
