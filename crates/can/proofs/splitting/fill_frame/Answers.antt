use borrow.Author.Rules.{rules}
use Rattle.can.proofs.Written.{frame_filled}
use Rattle.can.proofs.splitting.fill_frame.Goals as goal

pub returns : goal.returns
returns c =
    frame_filled c.args.header c.args.size c.args.number c.args.out.now _ _ c.requires.0 (search rules) c.write_at.ensures c.write_at-2.ensures
