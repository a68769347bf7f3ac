-- Whose value a cell of a lazy accumulator has.
use Rattle.std.specs.Prelude.{◌≡◌, ℕ, ◌+◌, ◌*◌, ◌<◌, ◌&&◌, true, cond, List, [], ◌∷◌, drop, flat_map, zip, Ok, Some, ◌==◌, slice_get}
use Rattle.refusal.specs.Trace.{trace}
use Rattle.joining.specs.declared.Joining.{Ghosts}
use Rattle.joining.specs.Lists.{joining_of}
use Rattle.accumulator.specs.declared.histories.Call.{Call}
use Rattle.accumulator.specs.declared.histories.Call.TheVariants.{Add}
use Rattle.accumulator.specs.Window.{slot_of, keeps}
use Rattle.accumulator.specs.declared.TheConstants.{KEPT}
use Rattle.accumulator.specs.LentCells.{CellChanges}
use Rattle.accumulator.specs.Calls.{CallAnswer, Account, account_step}

module _ {V : Type 0} where
  -- the value of an accepted add by the station for the pass
  abbrev pub value_added : ℕ → ℕ → Call V → CallAnswer V → List V
  value_added station pass (Add j n x) (Ok _) = cond (j == station && n == pass) (x ∷ []) []
  value_added station pass _ _ = []

  -- what the station added for the pass, in order
  abbrev pub values_added : ℕ → ℕ → List (Call V × CallAnswer V) → List V
  values_added station pass h = flat_map (λ e. value_added station pass e.0 e.1) h

  -- after calls, the cell of a station for a kept pass has the joining of what that station added for that pass, and further cells have what they had
  pub record OwnCells (J : Ghosts V) (k : CellChanges V) (a : Account V) (calls : List (Call V)) : Type 0 where
    pub own : (station pass : ℕ) → station < a.meaning.limit → keeps (trace (account_step J k) a calls).1.meaning.first pass ≡ true →
        slice_get (trace (account_step J k) a calls).1.cells.values (KEPT * station + slot_of pass) ≡ Some (joining_of J (values_added station pass (zip calls (trace (account_step J k) a calls).0)))
    pub further : drop (KEPT * a.meaning.limit) (trace (account_step J k) a calls).1.cells.values ≡ drop (KEPT * a.meaning.limit) a.cells.values
