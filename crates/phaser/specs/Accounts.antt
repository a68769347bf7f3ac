-- Accounts of a pass that hang on who sent what, and where the order of the stations does not matter for them.
use Rattle.std.specs.Prelude.{◌≡◌, ℕ, ◌<◌, ◌≢◌, List, ◌∷◌, fold}
use Rattle.refusal.specs.declared.limits.TheConstants.{STATIONS}
use Rattle.joining.specs.declared.Joining.{Ghosts}
use Rattle.calls.specs.declared.Mode.{Mode}
use Rattle.calls.specs.declared.actions.Call.{Call}
use Rattle.phaser.specs.State.{State, new_state}
use Rattle.phaser.specs.Histories.{AcceptedCall, accepted_calls, history, sends_for, entrants}
use Rattle.phaser.specs.Law.{Once, SameCalls}

-- what different stations add comes to the same in either order
abbrev pub Commuting : {A X : Type 0} → (A → ℕ × X → A) → Type 0
Commuting {A} {X} add = (a : A) (i k : ℕ) (x y : X) → i ≢ k → add (add a (i, x)) (k, y) ≡ add (add a (k, y)) (i, x)

-- an account of the sends accepted for a pass, each with its station, one after another: it is the same
-- on two boards made alike that accept the same calls, each station's in the same order, no number entering twice
abbrev pub AccountsOrderFree : {V : Type 0} → Ghosts V → Type 0 → Type 0
AccountsOrderFree {V} J A =
    (add : A → ℕ × V → A) → Commuting add → (empty : A) (pass first_member : ℕ) (mode : Mode) (limit : ℕ) → first_member < STATIONS → (calls others : List (Call V)) →
    let start : State V = new_state J first_member mode limit in
    let g : List (AcceptedCall V) = accepted_calls (history J start calls) in
    let h : List (AcceptedCall V) = accepted_calls (history J start others) in
    Once (first_member ∷ entrants g) → SameCalls g h → fold add empty (sends_for pass g) ≡ fold add empty (sends_for pass h)
