use Rattle.accumulator.proofs.OneSlot.{slot_told}
use Rattle.accumulator.proofs.windowed.WindowedAccumulator.total.Goals as goal

pub returns : goal.returns
returns g c =
    let a = c.args.self.now in
    let limit = a.window.limit in
    slot_told g.S.Value.Joining (g.S.Slots.total a.slots limit) limit a.window.first c.args.pass c.slot_of.result.index c.total.result
    c.in_ok-try_total.ensures c.slot_of.ensures c.total.ensures
