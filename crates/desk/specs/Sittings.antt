-- Lines that a board is told one after another, and what is written of its answers.
use Rattle.std.specs.Prelude.{ℕ, ◌+◌, List, [], ◌∷◌, ◌++◌}
use Rattle.joining.specs.declared.Joining.{Ghosts}
use Rattle.shiftlog.specs.declared.readings.Reading.{Reading}
use Rattle.accumulator.specs.LentCells.{CellChanges}
use Rattle.board.specs.Board.{WholeBoard}
use Rattle.desk.specs.declared.hearing.Heard.{Heard}
use Rattle.desk.specs.declared.hearing.Heard.TheVariants.{Nothing, Asked, Wrong}
use Rattle.desk.specs.Heard.{heard_in}
use Rattle.desk.specs.Answers.{request_step}
use Rattle.desk.specs.Texts.{told_line}

-- how many requests were answered, and the board
pub record Sitting (V : Type 0) : Type 0 where
  pub answered : ℕ
  pub board : WholeBoard V

module _ {V : Type 0} (J : Ghosts V) (changes : CellChanges V) (part_of : Reading → V) (text : V → List ℕ) where
  -- what is written for what a line comes to, and the sitting after it
  abbrev pub heard_step : Sitting V → Heard → List ℕ × Sitting V
  heard_step s Nothing = ([], s)
  heard_step s (Wrong mismatch) = ([], s)
  heard_step s (Asked request) =
      let r = request_step J changes part_of s.board request in
      (told_line text (s.answered + 1) request r.0, record { answered = s.answered + 1; board = r.1 })

  -- what is written for many lines
  abbrev pub written : Sitting V → List (List ℕ) → List ℕ
  written s [] = []
  written s (line ∷ lines) = (heard_step s (heard_in line)).0 ++ written (heard_step s (heard_in line)).1 lines
