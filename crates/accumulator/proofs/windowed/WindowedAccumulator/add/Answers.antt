use Rattle.accumulator.proofs.OneSlot.{below_limit, slot_added}
use Rattle.accumulator.proofs.windowed.WindowedAccumulator.add.Goals as goal

pub returns-clause-result : goal.returns-clause-result
returns-clause-result g c =
    let a = c.args.self.now in
    let limit = a.window.limit in
    let first = a.window.first in
    let total = g.S.Slots.total in
    let ok = c.in_ok-try_add.ensures in
    slot_added g.S.Value.Joining (total a.slots limit) limit first (total c.join.new.self limit) c.slot_of.result.index c.args.station c.args.pass c.args.value ok c.slot_of.ensures
    (c.join.ensures.total limit (below_limit limit first c.args.station c.args.pass ok) a.fits)
