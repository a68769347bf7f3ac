-- What a board answers to a request, and the board after it.
use Rattle.std.specs.Prelude.{ℕ, Bool, ◌&&◌, nat_lt, Ok, Err, Result}
use Rattle.refusal.specs.declared.Refusal.{Refusal}
use Rattle.refusal.specs.Rules.{verdict}
use Rattle.joining.specs.declared.Joining.{Ghosts}
use Rattle.calls.specs.Calls.{call_with}
use Rattle.calls.specs.Views.{signs, waits}
use Rattle.calls.specs.declared.views.View.{View}
use Rattle.calls.specs.declared.actions.Action.TheVariants.{View as AskView}
use Rattle.shiftlog.specs.declared.readings.Reading.{Reading}
use Rattle.accumulator.specs.LentCells.{CellChanges}
use Rattle.accumulator.specs.Meaning.{answer_by}
use Rattle.phaser.specs.State.{State, seat}
use Rattle.phaser.specs.Steps.{view_of, rules}
use Rattle.board.specs.Board.{WholeBoard, board_call}
use Rattle.board.specs.Holders.{holders_of}
use Rattle.desk.specs.declared.requests.Request.{Request}
use Rattle.desk.specs.declared.requests.Request.TheVariants.{Call, Holders, Compare}
use Rattle.desk.specs.declared.replies.Reply.{Reply}
use Rattle.desk.specs.declared.replies.Reply.TheVariants.{Answered, Holders as Held, Order}

-- v happened before w, as a test
abbrev pub is_before : View → View → Bool
is_before v w = signs v.mode && (nat_lt v.sp w.wp && waits w.mode)

-- what is made of an answer, and refusals as they are
abbrev pub as_reply : {X Y : Type 0} → (X → Y) → Result X Refusal → Result Y Refusal
as_reply f (Ok x) = Ok (f x)
as_reply f (Err refusal) = Err refusal

module _ {V : Type 0} where
  abbrev pub order_of : View → View → Reply V
  order_of v w = Order (is_before v w) (is_before w v)

  -- what a view call answers
  abbrev pub view_told : State V → ℕ → Result View Refusal
  view_told s j = let v : View = view_of (seat s j) in answer_by (verdict (rules s j v AskView)) v

  -- the order of two views, or the first refusal
  abbrev pub order_told : Result View Refusal → Result View Refusal → Result (Reply V) Refusal
  order_told (Ok v) (Ok w) = Ok (order_of v w)
  order_told (Ok v) (Err refusal) = Err refusal
  order_told (Err refusal) w = Err refusal

  abbrev pub compared : State V → ℕ → ℕ → Result (Reply V) Refusal
  compared s first second = order_told (view_told s first) (view_told s second)

  -- only a call alters the board; a send's reading enters as its part
  abbrev pub request_step : Ghosts V → CellChanges V → (Reading → V) → WholeBoard V → Request → Result (Reply V) Refusal × WholeBoard V
  request_step J changes part_of board (Call c) =
      let r : Result _ Refusal × WholeBoard V = board_call J changes board (call_with part_of c) in
      (as_reply Answered r.0, r.1)
  request_step J changes part_of board (Holders waiter) = (as_reply (λ h. Held h.0 h.1) (holders_of board.state.members waiter), board)
  request_step J changes part_of board (Compare first second) = (compared board.state first second, board)
