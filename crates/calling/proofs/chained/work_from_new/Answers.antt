use Rattle.std.proofs.Common.{[]}
use Rattle.calling.proofs.chained.work_from_new.Goals as goal

-- a board just made has an empty record
pub returns : goal.returns
returns g c = (c.in_ok-replies.ensures c.args.first c.args.mode g.limit [] (c.new-board.ensures.record g.limit c.requires.1.1.1)).1
