-- Who may do what, in words, and what it means that a table says so.
use Rattle.std.specs.Prelude.{Bool, true, not, ◌&&◌, ◌||◌, List, [], ◌∷◌, map}
use Rattle.calls.specs.declared.Mode.{Mode}
use Rattle.calls.specs.declared.Mode.TheVariants.{SignalWait, SignalOnly, WaitOnly}
use Rattle.calls.specs.declared.Verb.{Verb}
use Rattle.calls.specs.declared.Verb.TheVariants.{Register, Signal, Wait, Drop, Send, Result, View}
use Rattle.calls.specs.Views.{signs, waits}

-- signalers signal, waiters wait, who does both sends and reads totals, and every member may do the rest
abbrev pub allowed : Verb → Mode → Bool
allowed Register m = true
allowed Signal m = signs m
allowed Wait m = waits m
allowed Drop m = true
allowed Send m = signs m && waits m
allowed Result m = signs m && waits m
allowed View m = true

-- a signaler is brought in by signalers only, and a waiter by waiters only
abbrev pub admits : Mode → Mode → Bool
admits caller newcomer = (not (signs newcomer) || signs caller) && (not (waits newcomer) || waits caller)

-- ---- the same as whole tables

abbrev pub modes : List Mode
modes = SignalWait ∷ SignalOnly ∷ WaitOnly ∷ []

abbrev pub verbs : List Verb
verbs = Register ∷ Signal ∷ Wait ∷ Drop ∷ Send ∷ Result ∷ View ∷ []

abbrev pub calls_by_modes : List (List Bool)
calls_by_modes = map (λ v. map (allowed v) modes) verbs

abbrev pub modes_by_newcomers : List (List Bool)
modes_by_newcomers = map (λ m. map (admits m) modes) modes
