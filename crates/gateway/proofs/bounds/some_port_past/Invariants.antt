use mathlib.Core.Path.{◌≡◌}
use lib.Dec.{leb}
use lib.ListN.{take}
use Rattle.basics.specs.Lists.{any}
use Rattle.gateway.proofs.bounds.some_port_past.Given as goal

-- It is known whether one of the ports so far is past.
abbrev pub invariant-loop-port : goal.invariant-loop-port
invariant-loop-port l = l.past ≡ any (leb l.below) (take l.port-index l.ports)
