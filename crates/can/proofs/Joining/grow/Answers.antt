use Rattle.std.proofs.Common.{ap, refl}
use Rattle.can.specs.States.{place_number}
use Rattle.can.proofs.Places.{grown_first, grown_second}
use Rattle.can.proofs.Joining.grow.Goals as goal

pub returns-in-First : goal.returns-in-First
returns-in-First c =
    grown_first c.args.self.now _ c.requires.place_in_use.1 c.args.bytes.now _ (ap place_number c.in-First.is) c.requires.place_in_use.0 refl c.push.ensures.grown refl

pub returns-in-Second : goal.returns-in-Second
returns-in-Second c =
    grown_second c.args.self.now _ c.requires.place_in_use.1 c.args.bytes.now _ (ap place_number c.in-Second.is) c.requires.place_in_use.0 refl refl c.push-in-Second.ensures.grown
