use mathlib.Core.Path.{sym}
use native.Mathlib.Omega.{arith}
use lib.Seq.{length-take-le}
use Rattle.basics.proofs.Each.{each_length}
use Rattle.framing.proofs.Places.{first_each}
use Rattle.framing.proofs.Showing.{handed_accepted, handed_written}
use Rattle.framing.proofs.calls.write_handed.Goals as goal

-- What is handed out can be written, so it is; MTI 0 is no message.
pub returns-then-mti-eq0 : goal.returns-then-mti-eq0
returns-then-mti-eq0 c = (omega arith, rw c.if-mti-eq0.true)

pub slice_bounds-payload-end : goal.slice_bounds-payload-end
slice_bounds-payload-end c = omega (arith, simp each_length at (c.requires.0 c.if-mti-eq0.false).few)

pub slice_bounds-write-end : goal.slice_bounds-write-end
slice_bounds-write-end c =
    sym (length-take-le c.args.handed.length c.args.handed.payload (omega (arith, simp each_length at (c.requires.0 c.if-mti-eq0.false).few)))

pub unwrap-requires : goal.unwrap-requires
unwrap-requires c =
    let h = c.requires.0 c.if-mti-eq0.false in
    handed_accepted _ _ _ _ _ h c.requires.1 (first_each _ _ (omega (arith, simp each_length at h.few))) c.write.result c.write.ensures.result_value

pub returns : goal.returns
returns c =
    let h = c.requires.0 c.if-mti-eq0.false in
    handed_written _ _ _ _ _ h c.requires.1 (first_each _ _ (omega (arith, simp each_length at h.few))) c.write.result c.write.ensures.result_value c.if-mti-eq0.false c.unwrap.ensures c.write.ensures.out_after
