-- The whole text is within the buffer.
use Rattle.std.proofs.Common.{sym}
use Rattle.std.proofs.lemmas.List.{length-take-le}
use Rattle.text.proofs.Lengths.{laid_within}
use Rattle.trial_cases.proofs.run.Goals as goal

pub slice_bounds-text-end : goal.slice_bounds-text-end
slice_bounds-text-end g c = laid_within _ _ _ _ c.whole-end.ensures.value c.whole-end.ensures.text_after

pub slice_bounds-write_all-end : goal.slice_bounds-write_all-end
slice_bounds-write_all-end g c =
    sym (length-take-le _ _ (laid_within _ _ _ _ c.whole-end.ensures.value c.whole-end.ensures.text_after))
