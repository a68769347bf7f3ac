-- What a ticket's kind says of its station's view, and which calls stand on it.
use Rattle.std.specs.Prelude.{◌≡◌, ◌+◌, Bool, true, false, ◌&&◌}
use Rattle.calls.specs.declared.Mode.{Mode}
use Rattle.calls.specs.declared.Mode.TheVariants.{SignalWait, SignalOnly as SO, WaitOnly as WO}
use Rattle.calls.specs.declared.Verb.{Verb}
use Rattle.calls.specs.declared.Verb.TheVariants.{Signal, Wait, Send}
use Rattle.calls.specs.declared.views.View.{View}
use Rattle.calls.specs.Tables.{allowed}
use Rattle.ticket_kinds.specs.declared.Kind.{Kind}
use Rattle.ticket_kinds.specs.declared.Kind.TheVariants.{Open, Signed, SignOnly, WaitOnly}

abbrev pub mode_of : Kind → Mode
mode_of Open = SignalWait
mode_of Signed = SignalWait
mode_of SignOnly = SO
mode_of WaitOnly = WO

-- where an SW stands in its turns: it has observed all that it signed, or all but one
abbrev pub TurnOf : Kind → View → Type 0
TurnOf Open v = v.sp ≡ v.wp
TurnOf Signed v = v.sp ≡ v.wp + 1
TurnOf SignOnly v = Unit {0}
TurnOf WaitOnly v = Unit {0}

-- what a ticket says of its station's view
pub record Tells (kind : Kind) (v : View) : Type 0 where
  pub mode : v.mode ≡ mode_of kind
  pub turn : TurnOf kind v

-- an open ticket's turn is to send and sign, a signed one's is to wait; the other calls have no turns
abbrev pub has_turn : Kind → Verb → Bool
has_turn Open Wait = false
has_turn Signed Signal = false
has_turn Signed Send = false
has_turn kind verb = true

-- the calls that stand on a ticket: those of its mode that have their turn
abbrev pub offers : Kind → Verb → Bool
offers kind verb = allowed verb (mode_of kind) && has_turn kind verb

-- ---- the tickets that calls hand out

-- of a board's first member
abbrev pub first_kind : Mode → Kind
first_kind SignalWait = Open
first_kind SO = SignOnly
first_kind WO = WaitOnly

-- of a newcomer, by the ticket on which it is brought in: it takes over the counts
abbrev pub newcomer_kind : Kind → Mode → Kind
newcomer_kind Signed SignalWait = Signed
newcomer_kind kind mode = first_kind mode

-- of a station that has signed, and of one that has observed a pass
abbrev pub after_signing : Kind → Kind
after_signing Open = Signed
after_signing kind = kind

abbrev pub after_waiting : Kind → Kind
after_waiting Signed = Open
after_waiting kind = kind
