-- Calls on tickets beside calls by number.
use Rattle.std.specs.Prelude.{◌≡◌, ℕ, Ok, Err, Result, MatchResult}
use Rattle.refusal.specs.declared.Refusal.{Refusal}
use Rattle.ticket_kinds.specs.declared.Kind.{Kind}
use Rattle.ticket_kinds.specs.declared.Kind.TheVariants as kind
use Rattle.ticket.specs.declared.tickets.AnyTicket.{AnyTicket}
use Rattle.ticket.specs.declared.tickets.AnyTicket.TheVariants as any

-- the answer as the call by number gives it: the refusal without the ticket that comes back
abbrev pub by_number : {X T : Type 0} → Result X (Refusal × T) → Result X Refusal
by_number (Ok x) = Ok x
by_number (Err e) = Err e.0

-- the same of a call that answers a ticket too
abbrev pub without_ticket : {X T U : Type 0} → Result (X × T) (Refusal × U) → Result X Refusal
without_ticket (Ok a) = Ok a.0
without_ticket (Err e) = Err e.0

-- an accepted call answers the next ticket of the same station, a refused one hands back the ticket that it took
abbrev pub ComesBack : {X : Type 0} → ℕ → Result (X × ℕ) (Refusal × ℕ) → Type 0
ComesBack station r = MatchResult r (λ a. a.1 ≡ station) (λ e. e.1 ≡ station)

-- a ticket of any kind, by what it is
abbrev pub kind_in : AnyTicket → Kind
kind_in (any.Open t) = kind.Open
kind_in (any.Signed t) = kind.Signed
kind_in (any.SignOnly t) = kind.SignOnly
kind_in (any.WaitOnly t) = kind.WaitOnly

abbrev pub station_in : AnyTicket → ℕ
station_in (any.Open t) = t
station_in (any.Signed t) = t
station_in (any.SignOnly t) = t
station_in (any.WaitOnly t) = t

-- it is of this kind, for this station
pub record IsTicket (kind : Kind) (station : ℕ) (ticket : AnyTicket) : Type 0 where
  pub of_kind : kind_in ticket ≡ kind
  pub for_station : station_in ticket ≡ station
