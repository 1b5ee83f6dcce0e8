use Rattle.rehearsal.specs.Files.{role_in, event_in, status_in}
use Rattle.rehearsal.proofs.Loading.{Loaded}
use Rattle.rehearsal.proofs.bench.Bench.of.Given as goal

-- The lists are filled in up to slot i.
abbrev pub invariant-loop-i : goal.invariant-loop-i
invariant-loop-i l = Loaded (role_in l.file) l.initial.roles l.i l.roles × Loaded (event_in l.file) l.initial.events l.i l.events × Loaded (status_in l.file) l.initial.statuses l.i l.statuses
