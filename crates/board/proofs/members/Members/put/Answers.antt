use Rattle.board.proofs.Sound.{put_sound}
use Rattle.board.proofs.members.Members.put.Goals as goal

pub invariant_of-self : goal.invariant_of-self
invariant_of-self c = put_sound c.self.inside.seats c.args.station.number c.args.seat c.args.station.known c.requires c.self.invariant
