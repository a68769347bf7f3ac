use Rattle.std.proofs.Common.{◌≡◌, ◌*◌, ◌≤◌, List, [], ◌∷◌, length, ap, ◌∙◌, arith, sym, subst}
use Rattle.accumulator.specs.declared.TheConstants.{KEPT}
use Rattle.accumulator.specs.Changed.{OneChanged}
use Rattle.accumulator.specs.LentCells.{Lent}
use Rattle.accumulator.specs.Lazy.{slot_total, without_slot}
use Rattle.accumulator.proofs.CellSlots.{cells_wiped}
use Rattle.accumulator.proofs.station_cells.CellsSlots.wipe.Goals as goal

pub returns-clause-total : goal.returns-clause-total
returns-clause-total g c =
    let J = g.V.Joining in
    let xs = c.args.self.now.values in
    let limit = c.args.limit in
    let slot = c.args.slot.index in
    let fits : KEPT * limit ≤ length xs = omega arith in
    let all : c.loop-station.station ≡ limit = omega arith in
    let seen : c.self.inside.cells.now ≡ xs = ap (λ (t : Lent g.row.V.Denot). t.values) c.self.view_is in
    let cells = c.loop-station.invariant.cells ∙ ap (λ n. without_slot J slot n c.self.inside.cells.now) all ∙ ap (λ (ys : List g.row.V.Denot). without_slot J slot limit ys) seen in
    subst (λ (ys : List g.row.V.Denot). OneChanged (slot_total J limit xs) (slot_total J limit ys) slot J.neutral) (sym cells)
    (cells_wiped g.met.V.Joining.laws xs limit slot c.args.slot.within fits)

pub returns-clause-cells : goal.returns-clause-cells
returns-clause-cells g c =
    let all : c.loop-station.station ≡ c.args.limit = omega arith in
    let name = c.loop-station.invariant.lent in
    let values = c.loop-station.invariant.cells ∙ ap (λ n. without_slot g.V.Joining c.args.slot.index n c.self.inside.cells.now) all in
    (λ i. record { names = name i ∷ []; values = values i }) ∙ ap (λ (t : Lent g.row.V.Denot). record t { values = without_slot g.V.Joining c.args.slot.index c.args.limit t.values }) c.self.view_is
