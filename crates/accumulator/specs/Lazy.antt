-- What the cells of a lazy accumulator come to, and how they are written.
use Rattle.std.specs.Prelude.{ℕ, zero, suc, ◌+◌, ◌*◌, List, ◌++◌, take, drop, replicate, slice_index_or, slice_set}
use Rattle.joining.specs.declared.Joining.{Ghosts}
use Rattle.joining.specs.Lists.{joining_of}
use Rattle.joining.specs.Every.{cells_in_steps}
use Rattle.accumulator.specs.declared.TheConstants.{KEPT}
use Rattle.accumulator.specs.LentCells.{CellChanges, slot_changes}

module _ {V : Type 0} (J : Ghosts V) where
  -- the joining of a slot's cells, one for each station below the limit
  abbrev pub slot_total : ℕ → List V → ℕ → V
  slot_total limit cells slot = joining_of J (cells_in_steps slot KEPT (take (KEPT * limit) cells))

  -- a value joined to the cell at a place
  abbrev pub with_value_at : ℕ → V → List V → List V
  with_value_at at x cells = slice_set cells at (J.joined (slice_index_or cells at J.neutral) x)

  -- the slot's cell of each of the first stations neutral
  abbrev pub without_slot : ℕ → ℕ → List V → List V
  without_slot slot zero cells = cells
  without_slot slot (suc n) cells = slice_set (without_slot slot n cells) (KEPT * n + slot) J.neutral

  -- the first n cells neutral, and the others as they are
  abbrev pub with_neutral_front : ℕ → List V → List V
  with_neutral_front n cells = replicate n J.neutral ++ drop n cells

  -- station s has cell kept * s + r for slot r
  abbrev pub station_changes : CellChanges V
  station_changes = slot_changes (λ station slot. with_value_at (KEPT * station + slot)) (λ limit slot. without_slot slot limit)
