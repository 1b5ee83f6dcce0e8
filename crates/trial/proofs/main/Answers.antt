-- The whole text is within the buffer.
use Rattle.text.proofs.Lengths.{laid_within}
use Rattle.trial.proofs.main.Goals as goal

pub slice_bounds-write_all-end : goal.slice_bounds-write_all-end
slice_bounds-write_all-end c = laid_within _ _ _ _ c.whole-end.ensures.value c.whole-end.ensures.text_after
