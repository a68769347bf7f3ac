-- Totals that are handed out in a shift.
use Rattle.std.specs.Prelude.{◌≡◌, ℕ, List, Ok, Result, Contains}
use Rattle.refusal.specs.declared.Refusal.{Refusal}
use Rattle.refusal.specs.Trace.{trace}
use Rattle.joining.specs.declared.Joining.{Ghosts}
use Rattle.calls.specs.declared.Mode.TheVariants.{SignalWait}
use Rattle.calls.specs.declared.actions.Answer.{Answer}
use Rattle.calls.specs.declared.actions.Answer.TheVariants.{Total}
use Rattle.calls.specs.declared.actions.Call.{Call}
use Rattle.accumulator.specs.Meaning.{Meaning}
use Rattle.phaser.specs.Histories.{call_step}
use Rattle.board.specs.Board.{new_state_on}

module _ {V : Type 0} where
  -- what calls are answered on a board that station 0 has just made as SW, on an accumulator of this meaning
  abbrev pub shift_answers : Ghosts V → Meaning V → List (Call V) → List (Result (Answer V) Refusal)
  shift_answers J meaning calls = (trace (call_step J) (new_state_on 0 SignalWait meaning) calls).0

  -- two totals that are handed out for one pass are the same value
  abbrev pub OneTotalForEachPass : List (Result (Answer V) Refusal) → Type 0
  OneTotalForEachPass answers = (pass : ℕ) (x y : V) → Contains answers (Ok (Total pass x)) → Contains answers (Ok (Total pass y)) → x ≡ y
