-- Calls made one after another, where a step answers a call and leaves a state.
use Rattle.std.specs.Prelude.{List, [], ◌∷◌}

-- what the calls are answered from s on, and the state after the last
abbrev pub trace : {S C R : Type 0} → (S → C → R × S) → S → List C → List R × S
trace step s [] = ([], s)
trace step s (c ∷ cs) = ((step s c).0 ∷ (trace step (step s c).1 cs).0, (trace step (step s c).1 cs).1)
