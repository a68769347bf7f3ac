-- A board as contracts see it, and what its calls answer and leave.
use Rattle.std.specs.Prelude.{ℕ, ◌+◌, cond, List, Ok, Err, Result}
use Rattle.refusal.specs.declared.Refusal.{Refusal}
use Rattle.joining.specs.declared.Joining.{Ghosts}
use Rattle.calls.specs.declared.Mode.{Mode}
use Rattle.calls.specs.declared.actions.Action.{Action}
use Rattle.calls.specs.declared.actions.Action.TheVariants.{Wait, Send}
use Rattle.calls.specs.declared.actions.Call.{Call}
use Rattle.calls.specs.declared.actions.Answer.{Answer}
use Rattle.accumulator.specs.Meaning.{Meaning}
use Rattle.accumulator.specs.LentCells.{Lent, CellChanges, with_values, unless_refused}
use Rattle.phaser.specs.State.{State, seat}
use Rattle.phaser.specs.Limits.{reaches}
use Rattle.phaser.specs.Steps.{view_of, step}
use Rattle.board.specs.Entry.{first_members}

-- its state, and the cells that are lent to its accumulator
pub record WholeBoard (V : Type 0) : Type 0 where
  pub state : State V
  pub cells : Lent V

module _ {V : Type 0} where
  -- the state of a board made by its only member on an accumulator of this meaning
  abbrev pub new_state_on : ℕ → Mode → Meaning V → State V
  new_state_on first mode m = record { members = first_members first mode; account = m }

  -- what an accepted action of station j does to the cells: a send adds, and a wait that reaches the lead moves on
  abbrev pub cell_change : CellChanges V → State V → ℕ → Action V → List V → List V
  cell_change k s j Wait cells = cond (reaches s.account.first (view_of (seat s j))) (k.by_move_on s.account cells) cells
  cell_change k s j (Send x) cells = k.by_add s.account j ((view_of (seat s j)).sp + 1) x cells
  cell_change k s j _ cells = cells

  -- station j's action x on a board: its answer or its refusal, and the board after it
  abbrev pub board_step : Ghosts V → CellChanges V → WholeBoard V → ℕ → Action V → Result (Answer V) Refusal × WholeBoard V
  board_step J k h j x =
      let r : Result (Answer V) Refusal × State V = step J h.state j x in
      (r.0, record { state = r.1; cells = with_values (unless_refused r.0 (cell_change k h.state j x)) h.cells })

  -- the same of a call
  abbrev pub board_call : Ghosts V → CellChanges V → WholeBoard V → Call V → Result (Answer V) Refusal × WholeBoard V
  board_call J k h c = board_step J k h c.caller c.action

  -- what a call answers, as one of the board's answers
  abbrev pub as_answer : {X : Type 0} → (X → Answer V) → Result X Refusal → Result (Answer V) Refusal
  as_answer f (Ok x) = Ok (f x)
  as_answer f (Err refusal) = Err refusal
