-- What a board holds: a seat for each station, and what its accumulator means.
use Rattle.std.specs.Prelude.{◌≡◌, ◌≤◌, ℕ, List, length, replicate, Some, None, Option, slice_index_or, slice_set}
use Rattle.refusal.specs.declared.limits.TheConstants.{STATIONS, LAST_PASS}
use Rattle.joining.specs.declared.Joining.{Ghosts}
use Rattle.calls.specs.declared.Mode.{Mode}
use Rattle.calls.specs.declared.views.View.{View}
use Rattle.calls.specs.Views.{SoundCounts}
use Rattle.accumulator.specs.declared.TheConstants.{KEPT}
use Rattle.accumulator.specs.Meaning.{Meaning, new_meaning}

pub record State (V : Type 0) : Type 0 where
  pub members : List (Option View)
  pub account : Meaning V

-- the view of a station, if it is a member
abbrev pub seat : {V : Type 0} → State V → ℕ → Option View
seat s k = slice_index_or s.members k None

-- nothing signed and nothing observed
abbrev pub first_view : Mode → View
first_view mode = record { mode = mode; sp = 0; wp = 0 }

-- a board just made by its first member, with an accumulator just made
abbrev pub new_state : {V : Type 0} → Ghosts V → ℕ → Mode → ℕ → State V
new_state J first_member mode limit = record { members = slice_set (replicate STATIONS None) first_member (Some (first_view mode)); account = new_meaning J limit }

-- a view that a member may have: its counts are those of its mode, and neither is past the last pass
pub record SoundView (v : View) : Type 0 where
  pub counts : SoundCounts v.mode v.sp v.wp
  pub signed : v.sp ≤ LAST_PASS
  pub observed : v.wp ≤ LAST_PASS

-- what may stand in a seat
abbrev pub SoundSeat : Option View → Type 0
SoundSeat o = (v : View) → o ≡ Some v → SoundView v

-- a seat for each station, and a sound view in each that is taken
pub record SoundSeats (members : List (Option View)) : Type 0 where
  pub table : length members ≡ STATIONS
  pub views : (k : ℕ) → SoundSeat (slice_index_or members k None)

pub record SoundState {V : Type 0} (s : State V) : Type 0 where
  pub seats : SoundSeats s.members
  pub window : length s.account.totals ≡ KEPT
