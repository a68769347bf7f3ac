-- The calls keep to the rules: a call is accepted just where its rule applies within the limits.
use Rattle.std.specs.Prelude.{◌≡◌, ℕ, Some, Ok, Err, length}
use Rattle.refusal.specs.declared.Refusal.{Refusal}
use Rattle.refusal.specs.declared.limits.TheConstants.{STATIONS}
use Rattle.joining.specs.declared.Joining.{Ghosts}
use Rattle.calls.specs.declared.actions.Action.{Action}
use Rattle.calls.specs.declared.actions.Answer.{Answer}
use Rattle.calls.specs.declared.views.View.{View}
use Rattle.calls.specs.Views.{SoundCounts}
use Rattle.accumulator.specs.declared.TheConstants.{KEPT}
use Rattle.phaser.specs.State.{State, seat}
use Rattle.phaser.specs.Limits.{Accepted}
use Rattle.phaser.specs.Steps.{step}

-- a seat for each station, in each that is taken the counts of its mode, however high, and a total for each kept pass
pub record CountedState {V : Type 0} (s : State V) : Type 0 where
  pub table : length s.members ≡ STATIONS
  pub counts : (k : ℕ) (v : View) → seat s k ≡ Some v → SoundCounts v.mode v.sp v.wp
  pub window : length s.account.totals ≡ KEPT

module _ {V : Type 0} (J : Ghosts V) where
  -- station j's action x at s
  pub record Agrees (s : State V) (j : ℕ) (x : Action V) : Type 0 where
    pub by_rule : (a : Answer V) (t : State V) → step J s j x ≡ (Ok a, t) → Accepted J s j x a t
    pub by_step : (a : Answer V) (t : State V) → Accepted J s j x a t → step J s j x ≡ (Ok a, t)
    pub refused : (r : Refusal) (t : State V) → step J s j x ≡ (Err r, t) → t ≡ s

  -- for every station number and argument, wherever the counts are those of the modes
  abbrev pub RulesAgree : Type 0
  RulesAgree = (s : State V) → CountedState s → (j : ℕ) (x : Action V) → Agrees s j x
