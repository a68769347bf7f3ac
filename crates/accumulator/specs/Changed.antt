-- What a call does to the totals of the slots.
use Rattle.std.specs.Prelude.{◌≡◌, ◌≢◌, ℕ, ◌<◌}
use Rattle.accumulator.specs.declared.TheConstants.{KEPT}

-- s before and t after: the slot has the total x, and each other one what it had
pub record OneChanged {V : Type 0} (s t : ℕ → V) (slot : ℕ) (x : V) : Type 0 where
  pub here : t slot ≡ x
  pub other : (r : ℕ) → r < KEPT → r ≢ slot → t r ≡ s r
