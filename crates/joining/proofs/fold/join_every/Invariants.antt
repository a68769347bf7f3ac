use Rattle.std.proofs.Common.{◌≡◌, max, fold}
use Rattle.joining.specs.Lists.{joining_of}
use Rattle.joining.specs.Every.{cells_in_steps}
use Rattle.joining.proofs.fold.join_every.Given as goal

-- what is left, joined onto the total so far, is the whole
abbrev pub invariant-loop-i : goal.invariant-loop-i
invariant-loop-i g l =
    let J = g.V.Joining in
    (fold J.joined l.total (cells_in_steps l.i l.step l.cells) ≡ joining_of J (cells_in_steps l.start l.step l.cells)) × (l.i-step ≡ max l.step 1)
