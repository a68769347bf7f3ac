-- The limits that a board keeps to, and when a call is accepted within them.
use Rattle.std.specs.Prelude.{◌≡◌, ℕ, ◌+◌, ◌<◌, ◌≤◌, Bool, true, cond, ◌&&◌, length, ◌==◌}
use Rattle.refusal.specs.declared.limits.TheConstants.{STATIONS, LAST_PASS}
use Rattle.joining.specs.declared.Joining.{Ghosts}
use Rattle.calls.specs.declared.Mode.{Mode}
use Rattle.calls.specs.declared.views.View.{View}
use Rattle.calls.specs.declared.actions.Action.{Action}
use Rattle.calls.specs.declared.actions.Action.TheVariants.{Register, Signal, Wait, Send, Result as AskResult}
use Rattle.calls.specs.declared.actions.Answer.{Answer}
use Rattle.calls.specs.Views.{signs, waits}
use Rattle.accumulator.specs.Window.{keeps}
use Rattle.accumulator.specs.declared.TheConstants.{KEPT, LEAD}
use Rattle.accumulator.specs.Meaning.{total_in}
use Rattle.phaser.specs.State.{State, seat}
use Rattle.phaser.specs.Rules.{PhaserState, Applies}

-- who signs and waits is SW
abbrev pub is_sw : Mode → Bool
is_sw mode = signs mode && waits mode

-- an SW wait, by a member with the view v, reaches the pass at which the accumulator moves on
abbrev pub reaches : ℕ → View → Bool
reaches first v = is_sw v.mode && v.wp + 1 == first + LEAD

module _ {V : Type 0} where
  -- the first kept pass after a call by a member with the view v
  abbrev pub first_after : ℕ → View → Action V → ℕ
  first_after first v Wait = cond (reaches first v) (first + 1) first
  first_after first v _ = first

  -- the stations, passes and cells that a call by station j with the view v needs
  abbrev pub HasRoom : State V → ℕ → View → Action V → Type 0
  HasRoom s j v (Register other r) = other < STATIONS
  HasRoom s j v Signal = v.sp + 1 ≤ LAST_PASS
  HasRoom s j v Wait = v.wp + 1 ≤ LAST_PASS
  HasRoom s j v (Send x) = (v.sp + 1 ≤ LAST_PASS) × (j < s.account.limit) × (keeps s.account.first (v.sp + 1) ≡ true)
  HasRoom s j v AskResult = keeps s.account.first v.wp ≡ true
  HasRoom s j v _ = Unit {0}

  pub record WithinLimits (s : State V) (j : ℕ) (x : Action V) (v : View) (t : State V) : Type 0 where
    pub station : j < STATIONS
    pub room : HasRoom s j v x
    pub table : length t.members ≡ STATIONS
    pub limit : t.account.limit ≡ s.account.limit
    pub first : t.account.first ≡ first_after s.account.first v x
    pub window : length t.account.totals ≡ KEPT

  module _ (J : Ghosts V) where
    -- the board s without its limits
    abbrev pub phaser_state : State V → PhaserState V
    phaser_state s = record { phaser = seat s; totals = total_in J s.account }

    -- s has the seats of c and, from its first kept pass on, the totals
    pub record Shows (s : State V) (c : PhaserState V) : Type 0 where
      pub seats : (k : ℕ) → seat s k ≡ c.phaser k
      pub totals : (pass : ℕ) → s.account.first ≤ pass → total_in J s.account pass ≡ c.totals pass

    -- station j's action x at s has its rule and its limits, answers a and leaves t
    pub record Accepted (s : State V) (j : ℕ) (x : Action V) (a : Answer V) (t : State V) : Type 0 where
      pub view : View
      pub next : PhaserState V
      pub applies : Applies J.joined (phaser_state s) j x view a next
      pub limits : WithinLimits s j x view t
      pub shows : Shows t next
