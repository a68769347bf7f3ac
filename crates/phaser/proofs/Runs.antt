-- A history as a chain of accepted calls: each leads from one state to the next, and a refused one leaves everything.
use Rattle.std.proofs.Common.{◌≡◌, ℕ, ◌<◌, List, [], ◌∷◌}
use Rattle.refusal.specs.declared.limits.TheConstants.{STATIONS}
use Rattle.joining.specs.declared.Joining.{Ghosts}
use Rattle.calls.specs.declared.Mode.{Mode}
use Rattle.phaser.specs.State.{State, new_state}
use Rattle.phaser.specs.Limits.{Accepted}
use Rattle.phaser.specs.Histories.{AcceptedCall}

-- the history h leads from s to t
abbrev pub Run : {V : Type 0} → Ghosts V → State V → List (AcceptedCall V) → State V → Type 0
Run J s [] t = s ≡ t
Run J s ((c, a) ∷ h) t = (u : State _) × Accepted J s c.caller c.action a u × Run J u h t

-- h is a history of a board made by station j in a mode, and ends in t
pub record Recorded {V : Type 0} (J : Ghosts V) (j : ℕ) (mode : Mode) (limit : ℕ) (h : List (AcceptedCall V)) (t : State V) : Type 0 where
  pub maker : j < STATIONS
  pub run : Run J (new_state J j mode limit) h t
