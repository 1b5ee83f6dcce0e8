-- The whole text is within the buffer.
use Rattle.text.proofs.Lengths.{laid_within}
use Rattle.why.proofs.main.Goals as goal

pub slice_bounds-write_all-end : goal.slice_bounds-write_all-end
slice_bounds-write_all-end c = laid_within _ _ _ _ c.last_entry-end.ensures.value c.last_entry-end.ensures.text_after
