-- The words by which modes, calls, answers and unknown codes are printed.
use Rattle.std.specs.Prelude.{ℕ, List, [], ◌++◌, Some, Option, codes, decimal}
use Rattle.std.specs.Option.{option_map}
use Rattle.calls.specs.declared.Mode.{Mode}
use Rattle.calls.specs.declared.Mode.TheVariants.{SignalWait, SignalOnly, WaitOnly}
use Rattle.calls.specs.declared.Verb.{Verb}
use Rattle.calls.specs.declared.Verb.TheVariants.{Register, Signal, Wait, Drop, Send, Result, View as AskView}
use Rattle.calls.specs.declared.actions.Action.{Action}
use Rattle.calls.specs.declared.actions.Action.TheVariants as action
use Rattle.calls.specs.declared.actions.Call.{Call}
use Rattle.calls.specs.declared.actions.Answer.{Answer}
use Rattle.calls.specs.declared.actions.Answer.TheVariants.{Registered, Signaled, Observed, Dropped, Sent, Total, Viewed}
use Rattle.calls.specs.declared.views.View.{View}
use Rattle.calls.specs.declared.codes.UnknownCode.{UnknownCode}

abbrev pub mode_text : Mode → List ℕ
mode_text SignalWait = codes "SW"
mode_text SignalOnly = codes "SO"
mode_text WaitOnly = codes "WO"

-- the mode before the counts
abbrev pub view_text : View → List ℕ
view_text v = mode_text v.mode ++ (codes " " ++ (decimal v.sp ++ (codes " " ++ decimal v.wp)))

abbrev pub verb_text : Verb → List ℕ
verb_text Register = codes "register"
verb_text Signal = codes "signal"
verb_text Wait = codes "wait"
verb_text Drop = codes "drop"
verb_text Send = codes "send"
verb_text Result = codes "result"
verb_text AskView = codes "view"

abbrev pub unknown_text : UnknownCode → List ℕ
unknown_text e = codes "no code " ++ decimal e.0

-- the verb and the caller
abbrev pub head_text : Verb → ℕ → List ℕ
head_text verb caller = verb_text verb ++ (codes " " ++ decimal caller)

-- with the fields that the action uses, where text is that of the value
abbrev pub action_text : {V : Type 0} → (V → List ℕ) → ℕ → Action V → List ℕ
action_text text caller (action.Register other mode) = head_text Register caller ++ (codes " " ++ (decimal other ++ (codes " " ++ mode_text mode)))
action_text text caller action.Signal = head_text Signal caller
action_text text caller action.Wait = head_text Wait caller
action_text text caller action.Drop = head_text Drop caller
action_text text caller (action.Send value) = head_text Send caller ++ (codes " " ++ text value)
action_text text caller action.Result = head_text Result caller
action_text text caller action.View = head_text AskView caller

abbrev pub call_text : {V : Type 0} → (V → List ℕ) → Call V → List ℕ
call_text text c = action_text text c.caller c.action

-- the text of the value that an action sends, which may be unknown; what sends none needs none
abbrev pub sent_output : {V : Type 0} → (V → Option (List ℕ)) → Action V → Option (List ℕ)
sent_output output (action.Register other mode) = Some []
sent_output output action.Signal = Some []
sent_output output action.Wait = Some []
sent_output output action.Drop = Some []
sent_output output (action.Send value) = output value
sent_output output action.Result = Some []
sent_output output action.View = Some []

abbrev pub call_output : {V : Type 0} → (V → Option (List ℕ)) → Call V → Option (List ℕ)
call_output output c = option_map (λ t. call_text (λ _. t) c) (sent_output output c.action)

-- ok and the answer's numbers, where text is that of the total
abbrev pub answer_text : {V : Type 0} → (V → List ℕ) → Answer V → List ℕ
answer_text text (Registered sp wp) = codes "ok " ++ (decimal sp ++ (codes " " ++ decimal wp))
answer_text text (Signaled sp) = codes "ok " ++ decimal sp
answer_text text (Observed wp) = codes "ok " ++ decimal wp
answer_text text Dropped = codes "ok"
answer_text text (Sent pass) = codes "ok " ++ decimal pass
answer_text text (Total pass total) = codes "ok " ++ (decimal pass ++ (codes " " ++ text total))
answer_text text (Viewed v) = codes "ok " ++ view_text v

-- the text of the total that is answered, which may be unknown; what answers none needs none
abbrev pub total_output : {V : Type 0} → (V → Option (List ℕ)) → Answer V → Option (List ℕ)
total_output output (Registered sp wp) = Some []
total_output output (Signaled sp) = Some []
total_output output (Observed wp) = Some []
total_output output Dropped = Some []
total_output output (Sent pass) = Some []
total_output output (Total pass total) = output total
total_output output (Viewed v) = Some []

abbrev pub answer_output : {V : Type 0} → (V → Option (List ℕ)) → Answer V → Option (List ℕ)
answer_output output a = option_map (λ t. answer_text (λ _. t) a) (total_output output a)
