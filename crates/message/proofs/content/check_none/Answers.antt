-- No content is too little where the table's least is above it.
use borrow.Author.Tests.{lt-ltb, le-ltb}
use Rattle.message.proofs.content.check_none.Goals as goal

pub returns-then-meaning-gt0 : goal.returns-then-meaning-gt0
returns-then-meaning-gt0 c = let m = c.meaning_of-meaning in rw (← m.ensures, lt-ltb 0 m.result.least c.if-meaning-gt0.true)

pub returns-else-meaning-gt0 : goal.returns-else-meaning-gt0
returns-else-meaning-gt0 c = let m = c.meaning_of-meaning in rw (← m.ensures, le-ltb 0 m.result.least c.if-meaning-gt0.false)
