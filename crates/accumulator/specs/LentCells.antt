-- The cells that are lent to an accumulator, and what its calls do to them.
use Rattle.std.specs.Prelude.{ℕ, List, Ok, Err, Result}
use Rattle.std.specs.Borrow.{GName}
use Rattle.accumulator.specs.Window.{slot_of}
use Rattle.accumulator.specs.Meaning.{Meaning}

-- the cells that are lent, by name, and what each holds
pub record Lent (V : Type 0) : Type 0 where
  pub names : List GName
  pub values : List V

-- what the cells hold after an accepted add (by station, pass and value) and after an accepted move on, by what is meant and what they held before
pub record CellChanges (V : Type 0) : Type 0 where
  pub by_add : Meaning V → ℕ → ℕ → V → List V → List V
  pub by_move_on : Meaning V → List V → List V

-- a refusal rewrites nothing
abbrev pub unless_refused : {X E Y : Type 0} → Result X E → (Y → Y) → Y → Y
unless_refused (Ok _) f y = f y
unless_refused (Err _) f y = y

-- the same cells, with other values in them
abbrev pub with_values : {V : Type 0} → (List V → List V) → Lent V → Lent V
with_values f l = record { names = l.names; values = f l.values }

-- of what has a total for each slot: by what a station's value joined to a slot and a slot made neutral, by the limit, do to the cells
abbrev pub slot_changes : {V : Type 0} → (ℕ → ℕ → V → List V → List V) → (ℕ → ℕ → List V → List V) → CellChanges V
slot_changes joined wiped = record { by_add = λ m station pass x. joined station (slot_of pass) x; by_move_on = λ m. wiped m.limit (slot_of m.first) }
