-- What an eager accumulator has for each slot.
use Rattle.std.specs.Prelude.{ℕ, slice_index_or}
use Rattle.accumulator.specs.declared.running_totals.Totals.{Totals}

-- each slot has its own total
abbrev pub running_total : {V : Type 0} → V → Totals V → ℕ → V
running_total neutral s slot = slice_index_or s.totals slot neutral
