use Rattle.std.proofs.Common.{vec_items}
use Rattle.accumulator.specs.Calls.{account_of}
use Rattle.accumulator.proofs.Meant.{meant_alike}
use Rattle.accumulator.proofs.histories.play_both.Goals as goal

pub returns-clause-alike : goal.returns-clause-alike
returns-clause-alike g c =
    let A = g.A.Accumulator in
    let B = g.B.Accumulator in
    meant_alike g.A.Value.Joining A.changes B.changes
    (account_of A.meaning A.cells c.args.left.now) (account_of B.meaning B.cells c.args.right.now)
    (account_of A.meaning A.cells c.play.new.accumulator) (account_of B.meaning B.cells c.play-2.new.accumulator)
    c.args.calls.now c.in_ok-left_answers.left_answers.items c.in_ok-right_answers.right_answers.items c.in_ok-left_answers.ensures c.in_ok-right_answers.ensures
