-- Where a refused call is told to be.
use Rattle.std.specs.Prelude.{◌≡◌, ℕ, ◌+◌, cond, Err, nat_lt}
use Rattle.refusal.specs.declared.Refusal.{Refusal}
use Rattle.refusal.specs.declared.Refusal.TheVariants.{NoStation, AlreadyMember, LastPassKept, NotKept}
use Rattle.refusal.specs.declared.limits.TheConstants.{STATIONS}
use Rattle.refusal.specs.Refusals.{place}
use Rattle.joining.specs.declared.Joining.{Ghosts}
use Rattle.calls.specs.declared.views.View.{View}
use Rattle.calls.specs.declared.actions.Action.{Action}
use Rattle.calls.specs.declared.actions.Action.TheVariants.{Register, Send, Result as AskResult}
use Rattle.phaser.specs.State.{State, seat}
use Rattle.phaser.specs.Steps.{view_of, step}

module _ {V : Type 0} where
  -- the other station of a register; the other calls have none but the caller
  abbrev pub other_station : ℕ → Action V → ℕ
  other_station j (Register other r) = other
  other_station j _ = j

  -- the pass that a send is for, and the one that a result tells
  abbrev pub pass_asked : View → Action V → ℕ
  pass_asked v (Send x) = v.sp + 1
  pass_asked v _ = v.wp

  -- the offending number for 9, the other station for 11, the pass for 18, the first kept pass for 14 of a move on, and else the caller
  abbrev pub place_due : State V → ℕ → Action V → Refusal → ℕ
  place_due s j x (NoStation station) = cond (nat_lt j STATIONS) (other_station j x) j
  place_due s j x (AlreadyMember other) = other_station j x
  place_due s j x (NotKept pass) = pass_asked (view_of (seat s j)) x
  place_due s j x (LastPassKept first) = s.account.first
  place_due s j x _ = j

  -- of every refused call, by any station with any argument, on any board
  abbrev pub PlacesDue : Ghosts V → Type 0
  PlacesDue J = (s t : State V) (j : ℕ) (x : Action V) (r : Refusal) → step J s j x ≡ (Err r, t) → place r ≡ place_due s j x r
