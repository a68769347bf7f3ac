use Rattle.std.proofs.Common.{◌<◌, length, None, arith, rules}
use Rattle.board.proofs.Holding.{holding_more, bit_added}
use Rattle.board.proofs.holders.held_by.Goals as goal
use Rattle.board.proofs.holders.held_by.Goals.{then-holds, else-holds}

pub loop-k-preserved : goal.loop-k-preserved
loop-k-preserved c =
    let within : c.loop-k.k < length c.args.seats.now = omega arith in
    let more = holding_more c.args.wp c.args.seats.now c.loop-k.k within None in
    let added = bit_added c.args.wp c.args.seats.now c.loop-k.k within c.loop-k.set c.loop-k.invariant c.loop-k-test.true in
    elim c.if-holds.branch [ then-holds w ↦ search (rules, more, added) | else-holds w ↦ search (rules, more) ]
