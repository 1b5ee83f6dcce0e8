-- Each call puts a part of the text, and the first that is not full is the last.
use Rattle.std.proofs.Common.{◌≡◌, ◌+◌, ◌*◌}
use borrow.Author.Rules.{rules}
use native.Mathlib.Omega.{arith}
use Rattle.text.specs.Parts.{part_size}
use Rattle.streams.proofs.Parts.{last_part, full_part}
use Rattle.streams.proofs.write_parts.Goals as goal

pub returns-then-end-lt-PART : goal.returns-then-end-lt-PART
returns-then-end-lt-PART g c = λ text long gives.
    let skip = c.loop-n.n * part_size in
    let had = c.loop-n.invariant.1 text long gives in
    let put = gives skip _ _ _ (omega (arith, long, had.0)) c.loop-n.invariant.0 c.part.ensures in
    last_part skip text c.loop-n.buffer put c.min-end.ensures _ _ _ had c.in_ok-write_all.ensures.bytes c.if-end-lt-PART.true

pub loop-n-preserved : goal.loop-n-preserved
loop-n-preserved g c = (
  search rules,
  λ text long gives.
      let skip = c.loop-n.n * part_size in
      let had = c.loop-n.invariant.1 text long gives in
      let put = gives skip _ _ _ (omega (arith, long, had.0)) c.loop-n.invariant.0 c.part.ensures in
      let more = full_part skip text c.loop-n.buffer put c.min-end.ensures _ _ _ had c.in_ok-write_all.ensures.bytes c.if-end-lt-PART.false in
      let next : (c.loop-n.n + 1) * part_size ≡ skip + part_size = omega arith in
      rw next more,
)
