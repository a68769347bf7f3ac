use Rattle.std.proofs.Common.{◌≡◌, take}
use Rattle.board.specs.Holders.{holder_set}
use Rattle.board.proofs.holders.held_by.Given as goal

-- the set of the first k seats
abbrev pub invariant-loop-k : goal.invariant-loop-k
invariant-loop-k l = l.set ≡ holder_set l.wp (take l.k l.seats)
