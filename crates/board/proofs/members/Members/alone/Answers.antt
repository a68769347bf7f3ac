use Rattle.board.proofs.Sound.{alone_sound}
use Rattle.board.proofs.members.Members.alone.Goals as goal

pub invariant_of-result : goal.invariant_of-result
invariant_of-result c = alone_sound c.args.first.number c.args.mode c.args.first.known
