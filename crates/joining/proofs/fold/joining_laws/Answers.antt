use Rattle.joining.proofs.Joinings.{laws_follow}
use Rattle.joining.proofs.fold.joining_laws.Goals as goal

pub returns : goal.returns
returns g c = laws_follow g.met.V.Joining.laws
