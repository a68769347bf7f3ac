-- The cells of a list from a start in equal steps.
use Rattle.std.specs.Prelude.{ℕ, zero, suc, ◌-◌, List, [], ◌∷◌}

-- so many cells are left out, the next is taken, and again after each gap
abbrev pub cells_after : {V : Type 0} → ℕ → ℕ → List V → List V
cells_after skip gap [] = []
cells_after zero gap (x ∷ xs) = x ∷ cells_after gap gap xs
cells_after (suc skip) gap (x ∷ xs) = cells_after skip gap xs

-- the cells start, start + step, start + 2 * step and so on; a step of 0 counts as 1
abbrev pub cells_in_steps : {V : Type 0} → ℕ → ℕ → List V → List V
cells_in_steps start step xs = cells_after start (step - 1) xs
