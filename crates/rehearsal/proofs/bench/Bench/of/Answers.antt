use mathlib.Core.Path.{◌≡◌, refl, ap, ◌∙◌}
use native.Mathlib.Omega.{arith}
use Rattle.range.specs.Range.{block_of}
use Rattle.rehearsal.specs.Files.{slot_count, role_in, event_in, status_in}
use Rattle.rehearsal.proofs.Loading.{loaded_none, loaded_next, loaded_first}
use Rattle.rehearsal.proofs.Started.{started_in}
use Rattle.rehearsal.proofs.bench.Bench.of.Goals as goal

pub loop-i-init : goal.loop-i-init
loop-i-init c =
    let f = c.args.file.now in
    (loaded_none (role_in f) _, loaded_none (event_in f) _, loaded_none (status_in f) _)

pub loop-i-preserved : goal.loop-i-preserved
loop-i-preserved c =
    let l = c.loop-i in
    (loaded_next l.invariant.0 (omega arith) refl, loaded_next l.invariant.1 (omega arith) c.read_at.ensures, loaded_next l.invariant.2 (omega arith) refl)

pub returns : goal.returns
returns c =
    let s = c.args.file.now in
    let l = c.loop-i in
    let all : l.i ≡ slot_count s = omega arith in
    started_in s l.roles l.events l.statuses (omega arith) c.read_at-2.ensures (c.block_of.ensures ∙ ap block_of c.read_at-3.ensures) all (loaded_first l.invariant.0) (loaded_first l.invariant.1) (loaded_first l.invariant.2)
