-- When tickets tell the truth of their stations, and that calls on tickets keep it so.
use Rattle.std.specs.Prelude.{◌≡◌, ℕ, ◌<◌, ◌≢◌, List, [], ◌∷◌, map, length, true, Some, None, Option, Ok, Err, Result, IsSome, IfSome, MatchResult}
use Rattle.std.specs.List.{AllByRecursion}
use Rattle.refusal.specs.declared.Refusal.{Refusal}
use Rattle.refusal.specs.Refusals.{number}
use Rattle.refusal.specs.declared.limits.TheConstants.{STATIONS}
use Rattle.refusal.specs.Trace.{trace}
use Rattle.joining.specs.declared.Joining.{Ghosts}
use Rattle.accumulator.specs.Meaning.{Meaning}
use Rattle.calls.specs.declared.Mode.{Mode}
use Rattle.calls.specs.declared.views.View.{View}
use Rattle.calls.specs.declared.actions.Action.{Action}
use Rattle.calls.specs.declared.actions.Action.TheVariants.{Register, Signal, Wait, Drop}
use Rattle.calls.specs.declared.actions.Call.{Call}
use Rattle.calls.specs.declared.actions.Answer.{Answer}
use Rattle.calls.specs.Calls.{verb_in}
use Rattle.phaser.specs.State.{State, seat}
use Rattle.phaser.specs.Rules.{put}
use Rattle.phaser.specs.Histories.{call_step, history, final_state, refusals}
use Rattle.board.specs.Board.{new_state_on}
use Rattle.ticket_kinds.specs.declared.Kind.{Kind}
use Rattle.ticket_kinds.specs.Kinds.{Tells, offers, first_kind, newcomer_kind, after_signing, after_waiting}

-- ---- one ticket

-- on s, which has a seat for each station, a ticket of this kind for station j tells the truth
pub record Truthful {V : Type 0} (s : State V) (j : ℕ) (kind : Kind) : Type 0 where
  pub table : length s.members ≡ STATIONS
  pub view : View
  pub member : seat s j ≡ Some view
  pub tells : Tells kind view

-- a refusal neither for being no member, 10, nor for being out of turn, 13
pub record MayCome (refusal : Refusal) : Type 0 where
  pub member : number refusal ≢ 10
  pub turn : number refusal ≢ 13

-- a call by station j on a ticket of this kind answers r and leads from s to t: the next ticket, if there is one, tells the truth where the ticket did, a
-- refusal leaves it true and is one that may come, and the tickets of other stations stay true
pub record Keeps {V X : Type 0} (s : State V) (j : ℕ) (kind : Kind) (next : Option Kind) (r : Result X Refusal) (t : State V) : Type 0 where
  pub own : Truthful s j kind → MatchResult r (λ _. IfSome next (Truthful t j)) (λ refusal. Truthful t j kind × MayCome refusal)
  pub others : (k : ℕ) (other : Kind) → k ≢ j → Truthful s k other → Truthful t k other

-- ---- all tickets, over histories

-- the kind of the ticket that is out for each station, if one is
abbrev pub Tickets : Type 0
Tickets = ℕ → Option Kind

-- every ticket that is out tells the truth, and each member's ticket is out
pub record AllTruthful {V : Type 0} (s : State V) (out : Tickets) : Type 0 where
  pub tickets : (k : ℕ) (kind : Kind) → out k ≡ Some kind → Truthful s k kind
  pub members : (k : ℕ) (v : View) → seat s k ≡ Some v → IsSome (out k)

-- the first member's ticket
abbrev pub first_ticket : ℕ → Mode → Tickets
first_ticket first_member mode = put (λ _. None) first_member (Some (first_kind mode))

-- a call made on a ticket of this kind for the caller
pub record TicketCall (V : Type 0) : Type 0 where
  pub kind : Kind
  pub call : Call V

module _ {V : Type 0} where
  -- what an accepted call leaves of the ticket on which it was made
  abbrev pub next_ticket : Kind → Action V → Option Kind
  next_ticket kind Signal = Some (after_signing kind)
  next_ticket kind Wait = Some (after_waiting kind)
  next_ticket kind Drop = None
  next_ticket kind x = Some kind

  -- the tickets after an accepted call by station j on a ticket of this kind
  abbrev pub tickets_after : Tickets → ℕ → Kind → Action V → Tickets
  tickets_after out j kind (Register other mode) = put out other (Some (newcomer_kind kind mode))
  tickets_after out j kind x = put out j (next_ticket kind x)

  abbrev pub tickets_by : Result (Answer V) Refusal → Tickets → Tickets → Tickets
  tickets_by (Ok a) next out = next
  tickets_by (Err refusal) next out = out

  -- the ticket is out, and the call stands on tickets of its kind
  pub record OnTicket (out : Tickets) (c : TicketCall V) : Type 0 where
    pub held : out c.call.caller ≡ Some c.kind
    pub offered : offers c.kind (verb_in c.call.action) ≡ true

  abbrev pub calls_of : List (TicketCall V) → List (Call V)
  calls_of cs = map (λ c. c.call) cs

  module _ (J : Ghosts V) where
    -- what a call on a ticket is answered, and the board and the tickets after it
    abbrev pub ticket_step : State V × Tickets → TicketCall V → Result (Answer V) Refusal × (State V × Tickets)
    ticket_step t c = let a = call_step J t.0 c.call in (a.0, (a.1, tickets_by a.0 (tickets_after t.1 c.call.caller c.kind c.call.action) t.1))

    abbrev pub final_tickets : State V → Tickets → List (TicketCall V) → Tickets
    final_tickets s out calls = (trace ticket_step (s, out) calls).1.1

    -- each call is made on a ticket that is out when it comes
    abbrev pub OnTickets : State V → Tickets → List (TicketCall V) → Type 0
    OnTickets s out [] = Unit {0}
    OnTickets s out (c ∷ cs) = let next = (ticket_step (s, out) c).1 in OnTicket out c × OnTickets next.0 next.1 cs

    -- of calls on tickets: those that are out at the end tell the truth, and each refusal is one that may come
    pub record TruthKept (start : State V) (out : Tickets) (calls : List (TicketCall V)) : Type 0 where
      pub truthful : AllTruthful (final_state J start (calls_of calls)) (final_tickets start out calls)
      pub refusals : AllByRecursion MayCome (refusals (history J start (calls_of calls)))

    -- of every list of calls on tickets, on a board that its first member has just made on any accumulator
    abbrev pub TicketsTellTheTruth : Type 0
    TicketsTellTheTruth =
        (first_member : ℕ) (mode : Mode) (account : Meaning V) → first_member < STATIONS → (calls : List (TicketCall V)) →
        let start : State V = new_state_on first_member mode account in
        OnTickets start (first_ticket first_member mode) calls → TruthKept start (first_ticket first_member mode) calls
