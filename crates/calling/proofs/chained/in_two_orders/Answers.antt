use Rattle.std.proofs.Common.{[]}
use Rattle.calling.proofs.chained.in_two_orders.Goals as goal

-- each board begins an empty record
pub returns : goal.returns
returns g c =
    c.in_ok-left_replies.ensures.alike c.args.first c.args.mode g.limit [] [] (c.new-left_board.ensures.record g.limit c.requires.1.1.1.1.0) (c.new-right_board.ensures.record g.limit c.requires.1.1.1.1.1)
