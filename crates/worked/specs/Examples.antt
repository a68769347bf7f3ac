-- Worked examples over all layers.
use Rattle.std.specs.Prelude.{◌≡◌, ℕ, pos, Bool, map, List, [], ◌∷◌, ◌++◌, replicate, take, Some, None, Option, Ok, Err}
use Rattle.refusal.specs.declared.Layer.{Layer}
use Rattle.refusal.specs.declared.Layer.TheVariants as layers
use Rattle.refusal.specs.declared.Refusal.{Refusal}
use Rattle.refusal.specs.declared.Refusal.TheVariants.{Limit, TooFewCells, LogSize, BlockCheck, BlockNumber, BlockCount, NotZero, BadRecord, NoStation, NotMember, AlreadyMember, ModeDenied, OutOfTurn, PastLastPass, LastPassKept, NotSigned, NothingObserved, NoCell, NotKept}
use Rattle.refusal.specs.declared.limits.TheConstants.{STATIONS, LAST_PASS}
use Rattle.refusal.specs.Refusals.{number, layer, place}
use Rattle.refusal.specs.Rules.{verdict, TriedUpward}
use Rattle.calls.specs.declared.Mode.{Mode}
use Rattle.calls.specs.declared.Mode.TheVariants.{SignalWait, WaitOnly}
use Rattle.calls.specs.declared.views.View.{View}
use Rattle.calls.specs.declared.actions.Action.{Action}
use Rattle.calls.specs.declared.actions.Action.TheVariants.{Register, Signal, Wait, Drop, Send, Result as AskResult, View as AskView}
use Rattle.calls.specs.declared.actions.Call.{Call}
use Rattle.calls.specs.declared.actions.Answer.TheVariants.{Registered, Signaled, Observed, Sent, Total, Viewed}
use Rattle.calls.specs.Views.{Before}
use Rattle.joining.specs.declared.Joining.{Ghosts}
use Rattle.joining.specs.declared.kinds.Length.{Length}
use Rattle.joining.specs.Kinds.{length_of, no_length, joint_length}
use Rattle.accumulator.specs.declared.TheConstants.{KEPT, LEAD}
use Rattle.accumulator.specs.Window.{lazy_rules}
use Rattle.shiftlog.specs.declared.form.TheConstants.{HEADER_LEN, RECORD_LEN, FULL_COUNT, BLOCK_LEN, MAX_BLOCKS}
use Rattle.shiftlog.specs.Reading.{reading_of}
use Rattle.shiftlog.specs.Block.{check_of, block_rules}
use Rattle.accumulator.specs.Meaning.{new_meaning}
use Rattle.phaser.specs.State.{State, new_state}
use Rattle.board.specs.Board.{new_state_on}
use Rattle.ticket_kinds.specs.declared.Kind.{Kind}
use Rattle.ticket_kinds.specs.declared.Kind.TheVariants.{Open, Signed}
use Rattle.ticket.specs.Truth.{TicketCall, OnTickets, final_tickets, first_ticket}
use Rattle.phaser.specs.Histories.{Event, history}

abbrev pub by : ℕ → Action Length → Call Length
by caller action = record { caller = caller; action = action }

-- the joining of lengths
abbrev pub lengths : Ghosts Length
lengths = record { neutral = no_length; joined = joint_length }

-- what becomes of calls on a board of lengths, made by a station as SW with a limit
abbrev pub recorded : ℕ → ℕ → List (Call Length) → List (Event Length)
recorded first_member limit calls = history lengths (new_state lengths first_member SignalWait limit) calls

abbrev pub view_with : Mode → ℕ → ℕ → View
view_with mode sp wp = record { mode = mode; sp = sp; wp = wp }

-- a call on a ticket of a kind
abbrev pub on : Kind → ℕ → Action Length → TicketCall Length
on kind caller action = record { kind = kind; call = by caller action }

-- 0 signs, brings in 1 as SW and waits, all on its ticket; then 1 leaves
abbrev pub ticket_calls : List (TicketCall Length)
ticket_calls = on Open 0 Signal ∷ on Signed 0 (Register 1 SignalWait) ∷ on Signed 0 Wait ∷ on Signed 1 Drop ∷ []

abbrev pub first_board : State Length
first_board = new_state_on 0 SignalWait (new_meaning lengths 64)

-- the ticket that is out for a station after some of them
abbrev pub ticket_after : List (TicketCall Length) → ℕ → Option Kind
ticket_after calls = final_tickets lengths first_board (first_ticket 0 SignalWait) calls

-- block 0 of a log with the one record view 0, its check left out
abbrev pub one_view : List ℕ
one_view = replicate 4 0 ++ (1 ∷ replicate 11 0) ++ (7 ∷ replicate 495 0)

-- what is printed of a refusal, with the layer that refuses
abbrev pub told : Refusal → ℕ × Layer × ℕ
told refusal = (number refusal, layer refusal, place refusal)

-- one refusal of each case
abbrev pub every_refusal : List Refusal
every_refusal =
    Limit 65
    ∷ TooFewCells 5
    ∷ LogSize
    ∷ BlockCheck 127
    ∷ BlockNumber 1
    ∷ BlockCount 3
    ∷ NotZero 2
    ∷ BadRecord 32
    ∷ NoStation 64
    ∷ NotMember 4
    ∷ AlreadyMember 7
    ∷ ModeDenied 5
    ∷ OutOfTurn 6
    ∷ PastLastPass 6
    ∷ LastPassKept LAST_PASS
    ∷ NotSigned 1
    ∷ NothingObserved 0
    ∷ NoCell 9
    ∷ NotKept 8
    ∷ []

pub record WorkedExamples : Type 0 where
  -- 0 signs and waits; waiting first is out of turn
  pub turns : recorded 0 64 (by 0 Wait ∷ by 0 Signal ∷ by 0 Wait ∷ []) ≡ (by 0 Wait, Err (OutOfTurn 0)) ∷ (by 0 Signal, Ok (Signaled 1)) ∷ (by 0 Wait, Ok (Observed 1)) ∷ []
  -- 0 signs, then brings in 1 as SW: 1 has signed too, and waits
  pub newcomer : recorded 0 64 (by 0 Signal ∷ by 0 (Register 1 SignalWait) ∷ by 1 AskView ∷ by 1 Signal ∷ by 1 Wait ∷ [])
      ≡ (by 0 Signal, Ok (Signaled 1))
      ∷ (by 0 (Register 1 SignalWait), Ok (Registered 1 0))
      ∷ (by 1 AskView, Ok (Viewed (view_with SignalWait 1 0)))
      ∷ (by 1 Signal, Err (OutOfTurn 1))
      ∷ (by 1 Wait, Ok (Observed 1))
      ∷ []
  -- 0 brings in 1 as WO: 1 waits for what 0 signs
  pub waiter : recorded 0 64 (by 0 (Register 1 WaitOnly) ∷ by 1 Wait ∷ by 0 Signal ∷ by 1 Wait ∷ by 1 AskView ∷ [])
      ≡ (by 0 (Register 1 WaitOnly), Ok (Registered 0 0))
      ∷ (by 1 Wait, Err (NotSigned 1))
      ∷ (by 0 Signal, Ok (Signaled 1))
      ∷ (by 1 Wait, Ok (Observed 1))
      ∷ (by 1 AskView, Ok (Viewed (view_with WaitOnly 0 1)))
      ∷ []
  -- 1 sends 7 for pass 1; the 9 that 0 sends later is for pass 2
  pub totals : recorded 0 64 (by 0 (Register 1 SignalWait) ∷ by 1 (Send (length_of 7)) ∷ by 0 Signal ∷ by 1 Signal ∷ by 0 Wait ∷ by 0 (Send (length_of 9)) ∷ by 1 Wait ∷ by 1 AskResult ∷ [])
      ≡ (by 0 (Register 1 SignalWait), Ok (Registered 0 0))
      ∷ (by 1 (Send (length_of 7)), Ok (Sent 1))
      ∷ (by 0 Signal, Ok (Signaled 1))
      ∷ (by 1 Signal, Ok (Signaled 1))
      ∷ (by 0 Wait, Ok (Observed 1))
      ∷ (by 0 (Send (length_of 9)), Ok (Sent 2))
      ∷ (by 1 Wait, Ok (Observed 1))
      ∷ (by 1 AskResult, Ok (Total 1 (length_of 7)))
      ∷ []
  -- each call is on a ticket that is out: 1, brought in on a signed ticket, holds a signed one
  pub on_tickets : OnTickets lengths first_board (first_ticket 0 SignalWait) ticket_calls
  pub signed_newcomer : ticket_after (take 2 ticket_calls) 1 ≡ Some Signed
  pub open_again : ticket_after ticket_calls 0 ≡ Some Open
  pub ended : ticket_after ticket_calls 1 ≡ None
  pub nothing_yet : recorded 0 64 (by 0 AskResult ∷ []) ≡ (by 0 AskResult, Err (NothingObserved 0)) ∷ []
  pub first_before : Before (view_with SignalWait 0 0) (view_with SignalWait 1 1)
  pub not_second_before : ¬ (Before (view_with SignalWait 1 1) (view_with SignalWait 0 0))
  -- limit 2
  pub six_cells : verdict (lazy_rules 2 6) ≡ Ok tt
  pub five_cells : verdict (lazy_rules 2 5) ≡ Err (TooFewCells 5)
  pub no_cell : recorded 2 2 (by 2 (Send (length_of 7)) ∷ []) ≡ (by 2 (Send (length_of 7)), Err (NoCell 2)) ∷ []
  pub check : check_of one_view ≡ 124
  pub refused : map told every_refusal
      ≡ (1, layers.Maker, 65)
      ∷ (2, layers.Maker, 5)
      ∷ (3, layers.Log, 0)
      ∷ (4, layers.Log, 127)
      ∷ (5, layers.Log, 1)
      ∷ (6, layers.Log, 3)
      ∷ (7, layers.Log, 2)
      ∷ (8, layers.Record, 32)
      ∷ (9, layers.Board, 64)
      ∷ (10, layers.Board, 4)
      ∷ (11, layers.Board, 7)
      ∷ (12, layers.Board, 5)
      ∷ (13, layers.Board, 6)
      ∷ (14, layers.Board, 6)
      ∷ (14, layers.Accumulator, 999999)
      ∷ (15, layers.Board, 1)
      ∷ (16, layers.Board, 0)
      ∷ (17, layers.Accumulator, 9)
      ∷ (18, layers.Accumulator, 8)
      ∷ []
  -- of any block in any place
  pub upward : (place : ℕ) (last : Bool) (block : List ℕ) → TriedUpward (block_rules place last block)
  pub limits : (STATIONS ≡ 64) × (LAST_PASS ≡ 999999) × (KEPT ≡ 3) × (LEAD ≡ 2)
  pub form : (HEADER_LEN ≡ 16) × (RECORD_LEN ≡ 16) × (FULL_COUNT ≡ 31) × (BLOCK_LEN ≡ 512) × (MAX_BLOCKS ≡ 128)
  pub reading : reading_of (1 ∷ 0 ∷ 0 ∷ 0 ∷ 2 ∷ 0 ∷ 3 ∷ 0 ∷ []) ≡ record { length = 1; deviation = pos 2; marks = 3 }
