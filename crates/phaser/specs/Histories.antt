-- Histories: calls one after another with what they are answered, and what is said of them.
use Rattle.std.specs.Prelude.{ℕ, cond, List, [], ◌∷◌, ◌++◌, map, filter, flat_map, zip, Ok, Err, Result, ◌==◌}
use Rattle.std.specs.List.{AllByRecursion}
use Rattle.refusal.specs.declared.Refusal.{Refusal}
use Rattle.refusal.specs.Trace.{trace}
use Rattle.joining.specs.declared.Joining.{Ghosts}
use Rattle.calls.specs.declared.Mode.{Mode}
use Rattle.calls.specs.declared.Mode.TheVariants.{SignalWait}
use Rattle.calls.specs.declared.views.View.{View}
use Rattle.calls.specs.declared.actions.Action.{Action}
use Rattle.calls.specs.declared.actions.Action.TheVariants.{Register, Send}
use Rattle.calls.specs.declared.actions.Call.{Call}
use Rattle.calls.specs.declared.actions.Answer.{Answer}
use Rattle.calls.specs.declared.actions.Answer.TheVariants.{Observed, Sent, Total, Viewed}
use Rattle.phaser.specs.State.{State}
use Rattle.phaser.specs.Rules.{put}
use Rattle.phaser.specs.Steps.{step}

-- a call with what it was answered
abbrev pub Event : Type 0 → Type 0
Event V = Call V × Result (Answer V) Refusal

-- an accepted call with its answer
abbrev pub AcceptedCall : Type 0 → Type 0
AcceptedCall V = Call V × Answer V

module _ {V : Type 0} where
  module _ (J : Ghosts V) where
    -- what a call is answered, and the state after it
    abbrev pub call_step : State V → Call V → Result (Answer V) Refusal × State V
    call_step s c = step J s c.caller c.action

    -- the history of calls from a state on, and the state in which it ends
    abbrev pub history : State V → List (Call V) → List (Event V)
    history s calls = zip calls (trace call_step s calls).0

    abbrev pub final_state : State V → List (Call V) → State V
    final_state s calls = (trace call_step s calls).1

  abbrev pub accepted_calls : List (Event V) → List (AcceptedCall V)
  accepted_calls [] = []
  accepted_calls ((c, Ok a) ∷ h) = (c, a) ∷ accepted_calls h
  accepted_calls ((c, Err r) ∷ h) = accepted_calls h

  abbrev pub refusals : List (Event V) → List Refusal
  refusals [] = []
  refusals ((c, Ok a) ∷ h) = refusals h
  refusals ((c, Err r) ∷ h) = r ∷ refusals h

  -- ---- views read

  abbrev pub view_read : Answer V → List View
  view_read (Viewed v) = v ∷ []
  view_read _ = []

  -- in the order of their reading
  abbrev pub views_read : List (AcceptedCall V) → List View
  views_read ds = flat_map (λ d. view_read d.1) ds

  -- ---- values accepted

  -- the value, where the answer says that it counts for pass n
  abbrev pub value_for : ℕ → Action V → Answer V → List V
  value_for n (Send x) (Sent pass) = cond (pass == n) (x ∷ []) []
  value_for n _ _ = []

  -- each as often as it was accepted
  abbrev pub values_for : ℕ → List (AcceptedCall V) → List V
  values_for n ds = flat_map (λ d. value_for n d.0.action d.1) ds

  -- the same with the station that sent each
  abbrev pub sends_for : ℕ → List (AcceptedCall V) → List (ℕ × V)
  sends_for n ds = flat_map (λ d. map (λ value. (d.0.caller, value)) (value_for n d.0.action d.1)) ds

  -- ---- totals handed out

  abbrev pub OfTotal : (ℕ → V → Type 0) → Answer V → Type 0
  OfTotal P (Total pass total) = P pass total
  OfTotal P _ = Unit {0}

  -- P holds of each with its pass
  abbrev pub EachTotal : (ℕ → V → Type 0) → List (AcceptedCall V) → Type 0
  EachTotal P ds = AllByRecursion (λ d. OfTotal P d.1) ds

  -- ---- station by station

  -- station k's accepted actions with their answers, in their order
  abbrev pub answered_actions : ℕ → List (AcceptedCall V) → List (Action V × Answer V)
  answered_actions k ds = map (λ d. (d.0.action, d.1)) (filter (λ d. d.0.caller == k) ds)

  abbrev pub actions_by : ℕ → List (AcceptedCall V) → List (Action V)
  actions_by k ds = map (λ d. d.0) (answered_actions k ds)

  -- the stations that an action lets enter
  abbrev pub entrant : Action V → List ℕ
  entrant (Register other r) = other ∷ []
  entrant _ = []

  abbrev pub entrants : List (AcceptedCall V) → List ℕ
  entrants ds = flat_map (λ d. entrant d.0.action) ds

  -- ---- passes that waits in mode SW answered

  -- the mode in which each station entered last
  abbrev pub modes_after : (ℕ → Mode) → Action V → ℕ → Mode
  modes_after modes (Register other r) = put modes other r
  modes_after modes _ = modes

  abbrev pub sw_pass : Answer V → Mode → List ℕ
  sw_pass (Observed n) SignalWait = n ∷ []
  sw_pass _ _ = []

  -- in their order, the stations' modes being those given at first
  abbrev pub sw_passes : (ℕ → Mode) → List (AcceptedCall V) → List ℕ
  sw_passes modes [] = []
  sw_passes modes (d ∷ ds) = sw_pass d.1 (modes d.0.caller) ++ sw_passes (modes_after modes d.0.action) ds
