-- What a call asks for, and calls whose value is exchanged.
use Rattle.std.specs.Prelude.{◌≡◌}
use Rattle.calls.specs.declared.Verb.{Verb}
use Rattle.calls.specs.declared.Verb.TheVariants as verb
use Rattle.calls.specs.declared.actions.Action.{Action}
use Rattle.calls.specs.declared.actions.Action.TheVariants.{Register, Signal, Wait, Drop, Send, Result, View}
use Rattle.calls.specs.declared.actions.Call.{Call}

abbrev pub verb_in : {V : Type 0} → Action V → Verb
verb_in (Register other mode) = verb.Register
verb_in Signal = verb.Signal
verb_in Wait = verb.Wait
verb_in Drop = verb.Drop
verb_in (Send value) = verb.Send
verb_in Result = verb.Result
verb_in View = verb.View

-- the same call with f of the value that it sends
abbrev pub action_with : {V W : Type 0} → (V → W) → Action V → Action W
action_with f (Register other mode) = Register other mode
action_with f Signal = Signal
action_with f Wait = Wait
action_with f Drop = Drop
action_with f (Send value) = Send (f value)
action_with f Result = Result
action_with f View = View

abbrev pub call_with : {V W : Type 0} → (V → W) → Call V → Call W
call_with f c = record { caller = c.caller; action = action_with f c.action }

-- P holds of the value, if one is sent
abbrev pub ForSent : {V : Type 0} → Action V → (V → Type 0) → Type 0
ForSent (Register other mode) P = Unit {0}
ForSent Signal P = Unit {0}
ForSent Wait P = Unit {0}
ForSent Drop P = Unit {0}
ForSent (Send value) P = P value
ForSent Result P = Unit {0}
ForSent View P = Unit {0}

-- the action r is a, with a result in R of the value that a sends
abbrev pub ActionThrough : {V W : Type 0} → (V → W → Type 0) → Action V → Action W → Type 0
ActionThrough R (Register other mode) r = r ≡ Register other mode
ActionThrough R Signal r = r ≡ Signal
ActionThrough R Wait r = r ≡ Wait
ActionThrough R Drop r = r ≡ Drop
ActionThrough {W = W} R (Send value) r = (w : W) × (r ≡ Send w) × R value w
ActionThrough R Result r = r ≡ Result
ActionThrough R View r = r ≡ View
