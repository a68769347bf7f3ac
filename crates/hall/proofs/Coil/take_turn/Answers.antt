use Rattle.std.proofs.Common.{rules}
use Rattle.hall.specs.Hands.{IsTruthful}
use Rattle.hall.proofs.Coil.take_turn.Goals.{in-Open+in-Ok, in-Open+in-Err, in-Signed+in-Ok-wait, in-Signed+in-Err-wait, in-WaitOnly+in-Ok-wait-2, in-WaitOnly+in-Err-wait-2}
use Rattle.hall.proofs.Coil.take_turn.Goals as goal

pub returns : goal.returns
unfolding IsTruthful
returns c = elim c.match-ticket.branch [
  | in-Open+in-Ok w ↦ search rules
  | in-Open+in-Err w ↦ search rules
  | in-Signed+in-Ok-wait w ↦ search rules
  | in-Signed+in-Err-wait w ↦ search rules
  | in-WaitOnly+in-Ok-wait-2 w ↦ search rules
  | in-WaitOnly+in-Err-wait-2 w ↦ search rules
]
