use Rattle.std.proofs.Common.{◌*◌, ◌+◌, ◌≡◌, ◌≤◌, ◌∙◌, List, length, set, ap, subst, arith}
use Rattle.accumulator.specs.declared.TheConstants.{KEPT}
use Rattle.accumulator.specs.Changed.{OneChanged}
use Rattle.accumulator.specs.LentCells.{Lent}
use Rattle.accumulator.specs.Lazy.{slot_total}
use Rattle.accumulator.proofs.CellSlots.{cell_joined}
use Rattle.accumulator.proofs.station_cells.CellsSlots.join.Goals as goal

pub returns-clause-total : goal.returns-clause-total
returns-clause-total g c limit below room =
    let J = g.V.Joining in
    let xs = c.self.inside.cells.now in
    let slot = c.args.slot.index in
    let seen : xs ≡ c.args.self.now.values = ap (λ (t : Lent g.row.V.Denot). t.values) c.self.view_is in
    let fits : KEPT * limit ≤ length xs = omega (arith, ap (λ (ys : List g.row.V.Denot). length ys) seen) in
    subst (λ (ys : List g.row.V.Denot). OneChanged (slot_total J limit ys) (slot_total J limit (set xs (KEPT * c.args.station + slot) c.join.result)) slot (J.joined (slot_total J limit ys slot) c.args.value)) seen
    (cell_joined g.met.V.Joining.laws xs limit slot c.args.slot.within fits c.args.station _ c.args.value c.join.result below (c.join.ensures ∙ ap (λ (y : g.row.V.Denot). J.joined y c.args.value) c.index-cells-at.is))
