use Rattle.std.proofs.Common.{◌≡◌, length}
use Rattle.accumulator.specs.Lazy.{without_slot}
use Rattle.accumulator.proofs.station_cells.CellsSlots.wipe.Given as goal

abbrev pub invariant-loop-station : goal.invariant-loop-station
invariant-loop-station g l = record {
  lent : l.self-inside.cells.ghost_name ≡ l.initial.self-inside.cells.ghost_name;
  long : length l.self-inside.cells.now ≡ length l.initial.self-inside.cells.now;
  cells : l.self-inside.cells.now ≡ without_slot g.V.Joining l.slot.index l.station l.initial.self-inside.cells.now;
}
