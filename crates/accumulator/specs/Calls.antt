-- What a call of an accumulator answers and leaves.
use Rattle.std.specs.Prelude.{ℕ, List, Result, Option, Some, None}
use Rattle.std.specs.Result.{result_map_both}
use Rattle.refusal.specs.declared.Refusal.{Refusal}
use Rattle.joining.specs.declared.Joining.{Ghosts}
use Rattle.accumulator.specs.declared.histories.Call.{Call}
use Rattle.accumulator.specs.declared.histories.Call.TheVariants.{Add, Total, MoveOn}
use Rattle.accumulator.specs.Meaning.{Meaning, answer_by, new_meaning, add_outcome, total_answer, move_on_outcome}
use Rattle.accumulator.specs.LentCells.{Lent, CellChanges, with_values, unless_refused}

-- what a call answers: `None` where it is made and tells nothing
abbrev pub CallAnswer : Type 0 → Type 0
CallAnswer V = Result (Option V) Refusal

-- what an accumulator means, and its lent cells
pub record Account (V : Type 0) : Type 0 where
  pub meaning : Meaning V
  pub cells : Lent V

abbrev pub account_of : {A V : Type 0} → (A → Meaning V) → (A → Lent V) → A → Account V
account_of meaning cells a = record { meaning = meaning a; cells = cells a }

module _ {V : Type 0} where
  -- what an accepted call does to the lent cells
  abbrev pub cell_change : CellChanges V → Meaning V → Call V → List V → List V
  cell_change k m (Add station pass x) cells = k.by_add m station pass x cells
  cell_change k m MoveOn cells = k.by_move_on m cells
  cell_change k m _ cells = cells

  module _ (J : Ghosts V) where
    -- what a call answers, and what is meant after it
    abbrev pub meaning_step : Meaning V → Call V → CallAnswer V × Meaning V
    meaning_step m (Add station pass x) = (answer_by (add_outcome J m station pass x).0 None, (add_outcome J m station pass x).1)
    meaning_step m (Total pass) = (result_map_both (λ total. Some total) (λ refusal. refusal) (total_answer J m pass), m)
    meaning_step m MoveOn = (answer_by (move_on_outcome J m).0 None, (move_on_outcome J m).1)

    -- just made, in these cells
    abbrev pub new_account : ℕ → Lent V → Account V
    new_account limit cells = record { meaning = new_meaning J limit; cells = cells }

    -- a call's answer, and the accumulator after it
    abbrev pub account_step : CellChanges V → Account V → Call V → CallAnswer V × Account V
    account_step k a c = let r : CallAnswer V × Meaning V = meaning_step a.meaning c in (r.0, record { meaning = r.1; cells = with_values (unless_refused r.0 (cell_change k a.meaning c)) a.cells })
