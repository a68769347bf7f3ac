-- Tickets in the hands of their stations, and that they tell the truth from call to call.
use Rattle.std.specs.Prelude.{◌≡◌, ◌≢◌, ℕ}
use Rattle.phaser.specs.State.{State}
use Rattle.ticket.specs.declared.tickets.AnyTicket.{AnyTicket}
use Rattle.ticket.specs.Calls.{kind_in, station_in}
use Rattle.ticket.specs.Truth.{Truthful}

module _ {V : Type 0} where
  -- on s the ticket tells the truth of its station
  unfoldable pub IsTruthful : State V → AnyTicket → Type 0
  IsTruthful s ticket = Truthful s (station_in ticket) (kind_in ticket)

  -- from s to t only this ticket's station acts: the tickets of others stay truthful
  abbrev pub OnlyActs : State V → AnyTicket → State V → Type 0
  OnlyActs s ticket t = (other : AnyTicket) → station_in other ≢ station_in ticket → IsTruthful s other → IsTruthful t other

  -- on s station k has this ticket in hand, and it tells the truth
  pub record InHand (s : State V) (k : ℕ) (ticket : AnyTicket) : Type 0 where
    pub own : station_in ticket ≡ k
    pub truth : IsTruthful s ticket

  -- the same of the stations 0, 1 and 2
  pub record CrewInHand (s : State V) (tickets : AnyTicket × AnyTicket × AnyTicket) : Type 0 where
    pub first : InHand s 0 tickets.0
    pub second : InHand s 1 tickets.1
    pub reel : InHand s 2 tickets.2
